use Rattle.fdp_loading.proofs.Opens.{standing-opens}
use Rattle.fdp_loading.proofs.laws.an_image_that_stands_for_a_history_opens.Goals as goal

pub returns : goal.returns
returns c = standing-opens
