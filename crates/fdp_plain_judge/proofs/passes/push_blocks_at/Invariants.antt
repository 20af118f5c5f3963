use Rattle.fdp_rules.specs.Sites.{blocks_in}
use Rattle.fdp_tables.specs.State.{point_kept}
use Rattle.fdp_tables.proofs.Collecting.{IsCollectingIn}
use Rattle.fdp_plain_judge.proofs.passes.push_blocks_at.Given as goal

abbrev pub invariant-loop-nsid : goal.invariant-loop-nsid
invariant-loop-nsid l = IsCollectingIn (blocks_in (point_kept l.kept) l.spot) l.nsid-items l.nsid-index l.fn.into.items l.into.items
