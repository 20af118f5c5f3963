use Rattle.fdp_durability.proofs.Starting.{begun-found, begun-fresh}
use Rattle.fdp_durability.proofs.begun.runs_begin_durable.Goals as goal

pub returns-clause-found : goal.returns-clause-found
returns-clause-found c = begun-found

pub returns-clause-fresh : goal.returns-clause-fresh
returns-clause-fresh c = begun-fresh
