use Rattle.fdp_found.proofs.Stating.{image-found, stands-found, state-found}
use Rattle.fdp_found.proofs.found.images_are_found.Goals as goal

pub returns-clause-state : goal.returns-clause-state
returns-clause-state c = state-found

pub returns-clause-stands : goal.returns-clause-stands
returns-clause-stands c = stands-found

pub returns-clause-found : goal.returns-clause-found
returns-clause-found c = image-found
