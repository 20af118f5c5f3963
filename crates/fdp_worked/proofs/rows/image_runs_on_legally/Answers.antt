use Rattle.fdp_worked.proofs.Over.{image-legal}
use Rattle.fdp_worked.proofs.rows.image_runs_on_legally.Goals as goal

pub returns : goal.returns
returns c = image-legal
