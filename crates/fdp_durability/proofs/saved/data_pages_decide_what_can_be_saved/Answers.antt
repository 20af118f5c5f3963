use Rattle.fdp_durability.proofs.Beginnings.{can-in}
use Rattle.fdp_durability.proofs.saved.data_pages_decide_what_can_be_saved.Goals as goal

pub returns : goal.returns
returns c = can-in
