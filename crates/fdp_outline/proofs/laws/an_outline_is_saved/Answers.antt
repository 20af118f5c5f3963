use Rattle.fdp_outline.proofs.Saved.{outline-saved}
use Rattle.fdp_outline.proofs.laws.an_outline_is_saved.Goals as goal

pub returns : goal.returns
returns g = outline-saved
