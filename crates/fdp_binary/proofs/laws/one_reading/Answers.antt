use Rattle.fdp_binary.proofs.Splitting.{one-splitting}
use Rattle.fdp_binary.proofs.laws.one_reading.Goals as goal

pub returns : goal.returns
returns c = one-splitting
