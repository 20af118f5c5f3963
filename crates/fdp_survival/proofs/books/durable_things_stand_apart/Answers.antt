use Rattle.fdp_survival.proofs.Apart.{durable-stands-apart}
use Rattle.fdp_survival.proofs.Images.{image-grown}
use Rattle.fdp_survival.proofs.books.durable_things_stand_apart.Goals as goal

pub returns : goal.returns
returns c = record { apart = durable-stands-apart; grown = image-grown }
