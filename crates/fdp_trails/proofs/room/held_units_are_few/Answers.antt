use Rattle.fdp_trails.proofs.Holding.{held-few}
use Rattle.fdp_trails.proofs.room.held_units_are_few.Goals as goal

pub returns : goal.returns
returns c = held-few
