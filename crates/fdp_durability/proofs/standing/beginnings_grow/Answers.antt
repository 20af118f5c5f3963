use Rattle.fdp_durability.proofs.Beginnings.{stands-grown, stands-less}
use Rattle.fdp_durability.proofs.standing.beginnings_grow.Goals as goal

pub returns-clause-less : goal.returns-clause-less
returns-clause-less c = stands-less

pub returns-clause-more : goal.returns-clause-more
returns-clause-more c = stands-grown
