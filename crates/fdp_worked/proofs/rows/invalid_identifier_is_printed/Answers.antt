use Rattle.fdp_worked.proofs.Printed.{invalid_identifier-printed}
use Rattle.fdp_worked.proofs.rows.invalid_identifier_is_printed.Goals as goal

pub returns : goal.returns
returns c = invalid_identifier-printed
