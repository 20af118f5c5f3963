use Rattle.fdp_tables.specs.State.{point_kept}
use Rattle.fdp_plain_judge.specs.Passes.{AreInUnit}
use Rattle.fdp_plain_judge.proofs.unit_blocks.blocks_in_unit.Given as goal

abbrev pub invariant-loop-nsid : goal.invariant-loop-nsid
invariant-loop-nsid l = AreInUnit (point_kept l.kept) l.unit l.nsid l.blocks.items
