use Rattle.fdp_checkpoint.proofs.OfImage.{none_found}
use Rattle.fdp_checkpoint.proofs.laws.bad_checkpoint_is_none_of_the_image.Goals as goal

pub returns : goal.returns
returns c = none_found
