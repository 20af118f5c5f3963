use Rattle.fdp_pages.specs.Leaving.{ClosesTargets}
use Rattle.fdp_pages.proofs.leaving.close_targets.Given as goal

abbrev pub invariant-loop-ruh : goal.invariant-loop-ruh
invariant-loop-ruh l = ClosesTargets l.passes l.classes l.ruh l.fn.units l.units
