use Rattle.fdp_tables.specs.State.{point_kept}
use Rattle.fdp_plain_judge.specs.Judging.{IsOutside}
use Rattle.fdp_plain_judge.proofs.Scanning.{EachBefore}
use Rattle.fdp_plain_judge.proofs.pages.are_outside.Given as goal

abbrev pub invariant-loop-lba : goal.invariant-loop-lba
invariant-loop-lba l = EachBefore (IsOutside (point_kept l.kept) l.unit l.nsid) l.places l.lba-index
