use Rattle.fdp_worked.proofs.Printed.{image-printed}
use Rattle.fdp_worked.proofs.rows.image_is_printed.Goals as goal

pub returns : goal.returns
returns c = image-printed
