use Rattle.fdp_isolation.proofs.Found.{alone-found, image-apart, laned-found}
use Rattle.fdp_isolation.proofs.laws.found_drives_are_kept_apart.Goals as goal

pub returns-clause-opened : goal.returns-clause-opened
returns-clause-opened c = λ d cells r config valid image. image-apart d cells r config valid image

pub returns-clause-laned : goal.returns-clause-laned
returns-clause-laned c = laned-found

pub returns-clause-alone : goal.returns-clause-alone
returns-clause-alone c = alone-found
