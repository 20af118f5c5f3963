use Rattle.fdp_outline.proofs.Free.{IsSeeking, is_free}
use Rattle.fdp_outline.proofs.outline.Outline.lowest_free.Given as goal

abbrev pub invariant-loop-nsid : goal.invariant-loop-nsid
invariant-loop-nsid l = IsSeeking (is_free l.self) l.nsid
