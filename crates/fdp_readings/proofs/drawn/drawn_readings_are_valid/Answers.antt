use Rattle.fdp_readings.proofs.Drawing.{drawn-says, drawn-valid}
use Rattle.fdp_readings.proofs.drawn.drawn_readings_are_valid.Goals as goal

pub returns-clause-valid : goal.returns-clause-valid
returns-clause-valid c = λ d p cells orderly standing listed holds. drawn-valid d p cells orderly standing holds listed

pub returns-clause-says : goal.returns-clause-says
returns-clause-says c = drawn-says
