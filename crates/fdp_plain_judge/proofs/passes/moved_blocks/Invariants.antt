use Rattle.std.proofs.Common.{[]}
use Rattle.fdp_base.specs.declared.entry.Spot.{Spot}
use Rattle.fdp_rules.specs.Sites.{blocks_at}
use Rattle.fdp_tables.specs.State.{point_kept}
use Rattle.fdp_tables.proofs.Collecting.{IsCollectingIn}
use Rattle.fdp_plain_judge.proofs.passes.moved_blocks.Given as goal

abbrev pub invariant-loop-copy : goal.invariant-loop-copy
invariant-loop-copy l = IsCollectingIn (λ (x : Spot × Spot). blocks_at (point_kept l.kept) x.0) l.pass l.copy-index [] l.blocks.items
