use Rattle.fdp_found.proofs.Loaded.{fresh-found}
use Rattle.fdp_found.proofs.found.fresh_drives_are_found.Goals as goal

pub returns : goal.returns
returns c = fresh-found
