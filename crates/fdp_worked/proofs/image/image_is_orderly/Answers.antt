use Rattle.fdp_worked.proofs.Standing.{image-listed, image-orderly, image-standing}
use Rattle.fdp_worked.proofs.image.image_is_orderly.Goals as goal

pub returns-clause-orderly : goal.returns-clause-orderly
returns-clause-orderly c = image-orderly

pub returns-clause-standing : goal.returns-clause-standing
returns-clause-standing c = image-standing

pub returns-clause-listed : goal.returns-clause-listed
returns-clause-listed c = image-listed
