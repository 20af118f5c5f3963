use Rattle.std.proofs.Common.{length}
use Rattle.fdp_state.proofs.moved_blocks.+push_blocks_on.Given as goal

abbrev pub decreases-push_blocks_on : goal.decreases-push_blocks_on
decreases-push_blocks_on l = length l.ids.now
