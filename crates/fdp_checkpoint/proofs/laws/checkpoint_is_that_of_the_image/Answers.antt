use Rattle.fdp_checkpoint.proofs.OfImage.{reads_found, sizes_found}
use Rattle.fdp_checkpoint.proofs.laws.checkpoint_is_that_of_the_image.Goals as goal

pub returns-clause-sizes : goal.returns-clause-sizes
returns-clause-sizes c = sizes_found

pub returns-clause-reads : goal.returns-clause-reads
returns-clause-reads c = reads_found
