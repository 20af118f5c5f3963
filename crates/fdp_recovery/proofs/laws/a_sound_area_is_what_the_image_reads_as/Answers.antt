use Rattle.fdp_recovery.proofs.Sound.{sound_reads}
use Rattle.fdp_recovery.proofs.laws.a_sound_area_is_what_the_image_reads_as.Goals as goal

pub returns : goal.returns
returns c = sound_reads
