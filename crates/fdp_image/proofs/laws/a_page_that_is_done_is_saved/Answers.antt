use Rattle.fdp_image.proofs.NextRecord.{next_record_saved}
use Rattle.fdp_image.proofs.laws.a_page_that_is_done_is_saved.Goals as goal

pub returns : goal.returns
returns c = next_record_saved
