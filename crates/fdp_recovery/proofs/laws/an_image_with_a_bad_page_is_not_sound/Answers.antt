use Rattle.fdp_recovery.proofs.Sound.{no_bad_page}
use Rattle.fdp_recovery.proofs.laws.an_image_with_a_bad_page_is_not_sound.Goals as goal

pub returns : goal.returns
returns c = no_bad_page
