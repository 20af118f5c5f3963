use Rattle.fdp_core.proofs.Once.{saves-once}
use Rattle.fdp_core.proofs.laws.a_saving_is_one_call.Goals as goal

pub returns : goal.returns
returns c = saves-once
