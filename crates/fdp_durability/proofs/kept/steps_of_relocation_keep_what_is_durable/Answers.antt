use Rattle.fdp_durability.proofs.Stepping.{durable-step}
use Rattle.fdp_durability.proofs.kept.steps_of_relocation_keep_what_is_durable.Goals as goal

pub returns : goal.returns
returns c = durable-step
