use Rattle.fdp_survival.proofs.Apart.{said-found, said-fresh}
use Rattle.fdp_survival.proofs.books.isolated_images_are_said_apart.Goals as goal

pub returns : goal.returns
returns c = record { found = said-found; fresh = said-fresh }
