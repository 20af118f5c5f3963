use Rattle.std.proofs.Common.{subst}
use Rattle.fdp_board.specs.Board.{BoardSeen, items_of}
use Rattle.fdp_board.proofs.Came.{collects}
use Rattle.fdp_board.proofs.Stepping.{adds-none, board-after}
use Rattle.fdp_workers.specs.Marks.{mark_in}
use Rattle.fdp_gauge.specs.Passes.{told_of}
use Rattle.fdp_workers.specs.Turns.{AddsNone}
use Rattle.fdp_board.proofs.board.BoardSteps.collect.Goals as goal

pub invariant_of-self : goal.invariant_of-self
invariant_of-self g c =
    let state = g.F.Flash.state in
    let old = c.self.inside.group in
    let q = collects state old c.collect.new.self c.args.rg c.collect.result c.collect.ensures.step in
    board-after state old c.collect.new.self c.self.inside.before (told_of c.self.inside.teller) q.es q.goes_is c.collect.ensures.stops c.self.invariant

pub returns-clause-step : goal.returns-clause-step
returns-clause-step g c =
    let state = g.F.Flash.state in
    let old = c.self.inside.group in
    let q = collects state old c.collect.new.self c.args.rg c.collect.result c.collect.ensures.step in
    subst (λ (b : BoardSeen g.row.F.Denot). AddsNone mark_in (items_of b.group) (items_of c.collect.new.self)) c.self.view_is (adds-none state old c.collect.new.self q.es q.goes_is q.quiet)
