use Rattle.std.proofs.Common.{length}
use Rattle.fdp_plain.proofs.again.+take_runs.Given as goal

abbrev pub decreases-take_runs : goal.decreases-take_runs
decreases-take_runs l = length l.starts.now
