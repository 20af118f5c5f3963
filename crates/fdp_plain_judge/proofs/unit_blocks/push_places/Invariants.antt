use Rattle.fdp_tables.specs.State.{point_kept}
use Rattle.fdp_tables.proofs.Collecting.{IsCollectingIn}
use Rattle.fdp_plain_judge.specs.Passes.{in_unit}
use Rattle.fdp_plain_judge.proofs.unit_blocks.push_places.Given as goal

abbrev pub invariant-loop-lba : goal.invariant-loop-lba
invariant-loop-lba l = IsCollectingIn (in_unit (point_kept l.kept) l.unit l.nsid) l.places l.lba-index l.fn.into.items l.into.items
