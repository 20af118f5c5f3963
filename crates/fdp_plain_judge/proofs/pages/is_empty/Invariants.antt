use Rattle.std.proofs.Common.{◌<◌, ℕ}
use Rattle.fdp_tables.specs.State.{point_kept}
use Rattle.fdp_plain_judge.specs.Judging.{IsOutside}
use Rattle.fdp_plain_judge.proofs.pages.is_empty.Given as goal

abbrev pub invariant-loop-nsid : goal.invariant-loop-nsid
invariant-loop-nsid l = (nsid lba : ℕ) → nsid < l.nsid → IsOutside (point_kept l.kept) l.unit nsid lba
