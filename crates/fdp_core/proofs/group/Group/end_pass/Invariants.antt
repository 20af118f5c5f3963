use Rattle.fdp_core.specs.Passes.{left_in}
use Rattle.fdp_core.proofs.Outlasting.{GoesOn}
use Rattle.fdp_core.proofs.group.Group.end_pass.Given as goal

-- the pass is under way still, and what it has to do did not grow
abbrev pub invariant-loop : goal.invariant-loop
invariant-loop g l = GoesOn g.F.Flash.state l.fn.self l.self l.rg

abbrev pub decreases-loop : goal.decreases-loop
decreases-loop g l = left_in l.self.book l.rg
