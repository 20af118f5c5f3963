use Rattle.fdp_worked.proofs.Standing.{s-valid, t-valid}
use Rattle.fdp_worked.proofs.image.drives_are_valid.Goals as goal

pub returns-clause-s : goal.returns-clause-s
returns-clause-s c = s-valid

pub returns-clause-t : goal.returns-clause-t
returns-clause-t c = t-valid
