use Rattle.fdp_owners.specs.OwnerTable.{owner_at}
use Rattle.fdp_owners.proofs.Owned.{owners-apart, unit-unled}
use Rattle.fdp_owners.proofs.Tables.{unowned-unit}
use Rattle.fdp_owners.proofs.laws.owners_keep_pointers_apart.Goals as goal

pub returns-clause-apart : goal.returns-clause-apart
returns-clause-apart c = owners-apart

pub returns-clause-free : goal.returns-clause-free
returns-clause-free c = λ t at unit h none. unit-unled (owner_at t) at unit h (unowned-unit t unit none)
