use Rattle.fdp_recovery.proofs.Taken.{taken-by}
use Rattle.fdp_recovery.proofs.laws.an_image_that_reads_is_taken.Goals as goal

pub returns : goal.returns
returns c = taken-by
