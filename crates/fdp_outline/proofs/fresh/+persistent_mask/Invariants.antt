use Rattle.std.proofs.Common.{length}
use Rattle.fdp_outline.proofs.fresh.+persistent_mask.Given as goal

abbrev pub decreases-persistent_mask : goal.decreases-persistent_mask
decreases-persistent_mask l = length l.handles.now
