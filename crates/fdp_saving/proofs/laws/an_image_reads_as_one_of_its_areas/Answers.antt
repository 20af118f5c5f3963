use Rattle.fdp_saving.proofs.Alone.{one_is_read}
use Rattle.fdp_saving.proofs.laws.an_image_reads_as_one_of_its_areas.Goals as goal

pub returns : goal.returns
returns c = one_is_read
