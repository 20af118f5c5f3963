use Rattle.fdp_trails.proofs.Listing.{unit-empty, unit-erasable, unit-free}
use Rattle.fdp_trails.proofs.laws.empty_units_are_erasable.Goals as goal

pub returns-clause-counted : goal.returns-clause-counted
returns-clause-counted c = unit-free

pub returns-clause-free : goal.returns-clause-free
returns-clause-free c = unit-empty

pub returns-clause-empty : goal.returns-clause-empty
returns-clause-empty c = unit-erasable
