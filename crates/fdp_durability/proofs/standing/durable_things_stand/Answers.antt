use Rattle.fdp_durability.proofs.Durable.{durable-stands}
use Rattle.fdp_durability.proofs.standing.durable_things_stand.Goals as goal

pub returns : goal.returns
returns c = durable-stands
