use Rattle.std.proofs.Common.{length}
use Rattle.fdp_state.proofs.moves.+push_moves.Given as goal

abbrev pub decreases-push_moves : goal.decreases-push_moves
decreases-push_moves l = length l.from.now
