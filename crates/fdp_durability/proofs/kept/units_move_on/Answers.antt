use Rattle.fdp_durability.proofs.Durable.{durable-moves}
use Rattle.fdp_durability.proofs.kept.units_move_on.Goals as goal

pub returns : goal.returns
returns c = durable-moves
