use Rattle.fdp_recovery.proofs.Sound.{reads_sound}
use Rattle.fdp_recovery.proofs.laws.what_an_image_reads_as_is_sound.Goals as goal

pub returns : goal.returns
returns c = reads_sound
