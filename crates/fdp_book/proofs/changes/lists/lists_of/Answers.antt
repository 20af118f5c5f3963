use Rattle.std.proofs.Common.{subst}
use Rattle.fdp_base.specs.declared.command.Command.{Command}
use Rattle.fdp_book.specs.Book.{point_in}
use Rattle.fdp_book.specs.Changes.{CanBeSaved}
use Rattle.fdp_book.proofs.Making.Accepted.{creatable}
use Rattle.fdp_book.proofs.changes.lists.lists_of.Goals as goal

pub handles_of-requires-clause-few : goal.handles_of-requires-clause-few
handles_of-requires-clause-few c create is =
    let b = c.args.book.now in
    let can = subst (λ (x : Command). CanBeSaved b x) is c.requires in
    (creatable b.config (point_in b) create c.known.ensures.config c.known.ensures.orderly.state can.accepted).few

pub handles_of-requires-clause-small : goal.handles_of-requires-clause-small
handles_of-requires-clause-small c create is =
    let b = c.args.book.now in
    let can = subst (λ (x : Command). CanBeSaved b x) is c.requires in
    (creatable b.config (point_in b) create c.known.ensures.config c.known.ensures.orderly.state can.accepted).low
