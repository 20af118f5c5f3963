use Rattle.fdp_owners.proofs.Owned.{owners-cleared, owners-moved, owners-none, owners-put}
use Rattle.fdp_owners.proofs.laws.owners_point.Goals as goal

pub returns-clause-none : goal.returns-clause-none
returns-clause-none c = owners-none

pub returns-clause-put : goal.returns-clause-put
returns-clause-put c = owners-put

pub returns-clause-cleared : goal.returns-clause-cleared
returns-clause-cleared c = owners-cleared

pub returns-clause-moved : goal.returns-clause-moved
returns-clause-moved c = owners-moved
