use Rattle.std.proofs.Common.{subst, sym}
use Rattle.fdp_workers.specs.fdp_core.Seen.{Seen}
use Rattle.fdp_gauge.specs.Passes.{told_of}
use Rattle.fdp_board.specs.Board.{IsBoard}
use Rattle.fdp_board.proofs.board.BoardSteps.reserve.Goals as goal

pub invariant_of-self : goal.invariant_of-self
invariant_of-self g c =
    let was = c.self.invariant in
    subst (λ (s : Seen g.row.F.Denot). IsBoard g.F.Flash.state s c.self.inside.before (told_of c.self.inside.teller)) (sym c.reserve.ensures.kept)
    (record { opens = was.opens; shown = was.shown; sums = was.sums; safe = was.safe; roomy = was.roomy; later = was.later; charged = was.charged; unfailing = was.unfailing; steps = was.steps; emptied = record { cut = was.emptied.cut; only = was.emptied.only } })
