use Rattle.fdp_saving.proofs.Alone.{sure_is_read}
use Rattle.fdp_saving.proofs.laws.while_there_is_no_doubt_the_area_is_what_is_read.Goals as goal

pub returns : goal.returns
returns c = sure_is_read
