use Rattle.std.proofs.Common.{◌≡◌, drop}
use Rattle.fdp_flash.specs.Plan.{planned_failure}
use Rattle.fdp_flash.proofs.plan.failure_at.Given as goal

abbrev pub invariant-loop-at : goal.invariant-loop-at
invariant-loop-at l = planned_failure (drop l.at-index l.failing) l.moment ≡ planned_failure l.failing l.moment
