use Rattle.std.proofs.Common.{◌≡◌, ◌∙◌, ap, arith, subst, sym}
use Rattle.fdp_book.specs.Book.{BookSeen, point_in, state_in}
use Rattle.fdp_book.specs.Held.{book_of}
use Rattle.fdp_book.proofs.Making.Entries.{of-command}
use Rattle.fdp_book.proofs.Outlining.{generation-said}
use Rattle.fdp_records.specs.Borrowed.{change_of}
use Rattle.fdp_snapshot.specs.declared.state.Summary.{Summary}
use Rattle.fdp_book.proofs.book.Book.change_of_command.Goals as goal

pub command_change-requires-clause-generation : goal.command_change-requires-clause-generation
command_change-requires-clause-generation c =
    let old = c.self.inside in
    let b : BookSeen = book_of old.config old.origin old.log old.tables in
    ap (λ (s : Summary). s.generation) c.summary.ensures.summary
    ∙ subst (λ (x : BookSeen). old.tables.outline.generation ≡ (state_in x).generation) c.self.view_is (sym (generation-said b.config (point_in b) old.tables.outline c.self.invariant.held.outline_is))

pub command_change-requires-clause-next : goal.command_change-requires-clause-next
command_change-requires-clause-next c =
    let old = c.self.inside in
    let b : BookSeen = book_of old.config old.origin old.log old.tables in
    let same : c.summary.result.now.generation ≡ (state_in c.args.self.now).generation =
    ap (λ (s : Summary). s.generation) c.summary.ensures.summary
    ∙ subst (λ (x : BookSeen). old.tables.outline.generation ≡ (state_in x).generation) c.self.view_is (sym (generation-said b.config (point_in b) old.tables.outline c.self.invariant.held.outline_is)) in
    omega (arith, same, c.numbered.ensures)

pub returns-clause-entry : goal.returns-clause-entry
returns-clause-entry c queue number reply moment applied =
    let b = c.args.self.now in
    let can = c.requires.can in
    of-command b.config (point_in b) queue number c.args.command.now reply moment (change_of c.command_change.result) c.known.ensures.config c.known.ensures.orderly can.accepted can.saved can.other c.command_change.ensures.change applied
