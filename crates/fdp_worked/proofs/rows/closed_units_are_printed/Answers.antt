use Rattle.fdp_worked.proofs.Printed.{closed_units-printed}
use Rattle.fdp_worked.proofs.rows.closed_units_are_printed.Goals as goal

pub returns : goal.returns
returns c = closed_units-printed
