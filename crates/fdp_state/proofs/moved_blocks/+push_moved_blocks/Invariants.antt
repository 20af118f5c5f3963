use Rattle.std.proofs.Common.{length}
use Rattle.fdp_state.proofs.moved_blocks.+push_moved_blocks.Given as goal

abbrev pub decreases-push_moved_blocks : goal.decreases-push_moved_blocks
decreases-push_moved_blocks l = length l.moves.now
