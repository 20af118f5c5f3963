use Rattle.fdp_plain_judge.specs.Judging.{IsFreeOf}
use Rattle.fdp_plain_judge.proofs.Scanning.{EachBefore}
use Rattle.fdp_plain_judge.proofs.pages.is_unreferenced.Given as goal

abbrev pub invariant-loop-reference : goal.invariant-loop-reference
invariant-loop-reference l = EachBefore (IsFreeOf l.unit) l.reference-items l.reference-index
