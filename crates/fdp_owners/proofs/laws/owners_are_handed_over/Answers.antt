use Rattle.fdp_owners.proofs.Owned.{owners-handed}
use Rattle.fdp_owners.proofs.laws.owners_are_handed_over.Goals as goal

pub returns : goal.returns
returns c = owners-handed
