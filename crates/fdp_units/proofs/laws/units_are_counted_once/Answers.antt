use Rattle.fdp_units.proofs.Counted.{counted-once}
use Rattle.fdp_units.proofs.laws.units_are_counted_once.Goals as goal

pub returns : goal.returns
returns c = counted-once
