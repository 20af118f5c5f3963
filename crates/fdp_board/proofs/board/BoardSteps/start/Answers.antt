use Rattle.std.proofs.Common.{subst, sym}
use Rattle.fdp_workers.specs.fdp_core.Steps.{MayBegin}
use Rattle.fdp_board.specs.Board.{BoardSeen, items_of}
use Rattle.fdp_workers.specs.Marks.{entry_in, mark_in}
use Rattle.fdp_board.proofs.Came.{begins-goes, begins-told}
use Rattle.fdp_board.proofs.Stepping.{board-after, state-told}
use Rattle.fdp_workers.specs.fdp_book.Stages.{IsFree}
use Rattle.fdp_gauge.specs.Passes.{told_of}
use Rattle.fdp_rules.specs.PlainState.{PlainState}
use Rattle.fdp_workers.specs.Turns as turns
use Rattle.fdp_board.proofs.board.BoardSteps.start.Goals as goal

pub start-requires-clause-may : goal.start-requires-clause-may
start-requires-clause-may g c =
    let may = c.requires.may in
    subst (λ (b : BoardSeen g.row.F.Denot). MayBegin b.group c.args.queue c.args.number c.args.command c.args.room) (sym c.self.view_is)
    (record { queue_is = may.queue_is; formed = may.formed; free = subst (λ (s : PlainState). IsFree s c.args.queue c.args.number) (state-told c.args.self.now.group) may.free; room_is = may.room_is })

pub invariant_of-self : goal.invariant_of-self
invariant_of-self g c =
    let state = g.F.Flash.state in
    let old = c.self.inside.group in
    let q = begins-goes state old c.start.new.self c.args.queue c.args.number c.args.command c.start.result c.start.ensures.step in
    board-after state old c.start.new.self c.self.inside.before (told_of c.self.inside.teller) q.0 q.1 c.start.ensures.stops c.self.invariant

pub returns-clause-step : goal.returns-clause-step
returns-clause-step g c =
    let state = g.F.Flash.state in
    let old = c.self.inside.group in
    subst (λ (b : BoardSeen g.row.F.Denot). turns.Begins (record { config = b.group.book.config; found = b.group.book.found; gauge = b.gauge }) entry_in mark_in (items_of b.group) (items_of c.start.new.self) c.args.queue c.args.number c.args.command c.start.result) c.self.view_is
    (begins-told state old c.start.new.self c.self.inside.teller.place.table_id c.args.queue c.args.number c.args.command c.start.result c.start.ensures.step)
