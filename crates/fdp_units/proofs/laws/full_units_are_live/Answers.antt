use Rattle.fdp_units.proofs.Counted.{full-live}
use Rattle.fdp_units.proofs.laws.full_units_are_live.Goals as goal

pub returns : goal.returns
returns c = full-live
