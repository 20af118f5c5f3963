use Rattle.fdp_durability.proofs.Empty.{drawn-empty}
use Rattle.fdp_durability.proofs.kept.units_without_live_pages_are_not_drawn.Goals as goal

pub returns : goal.returns
returns c = drawn-empty
