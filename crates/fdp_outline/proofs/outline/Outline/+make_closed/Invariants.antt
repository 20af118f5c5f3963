use Rattle.std.proofs.Common.{length}
use Rattle.fdp_outline.proofs.outline.Outline.+make_closed.Given as goal

abbrev pub decreases-make_closed : goal.decreases-make_closed
decreases-make_closed l = length l.pids.now
