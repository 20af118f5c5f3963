use Rattle.std.proofs.Common.{length}
use Rattle.fdp_recovery.proofs.fields.+bad_space.Given as goal

abbrev pub decreases-bad_space : goal.decreases-bad_space
decreases-bad_space l = length l.spaces.now
