use Rattle.fdp_trails.proofs.Recounting.{moves-keep}
use Rattle.fdp_trails.proofs.toil.moves_keep_toil.Goals as goal

pub returns : goal.returns
returns c = moves-keep
