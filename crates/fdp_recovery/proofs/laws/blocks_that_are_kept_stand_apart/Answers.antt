use Rattle.fdp_recovery.proofs.Sound.{kept_apart}
use Rattle.fdp_recovery.proofs.laws.blocks_that_are_kept_stand_apart.Goals as goal

pub returns : goal.returns
returns c = kept_apart
