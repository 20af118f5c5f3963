use Rattle.fdp_found.proofs.Reopening.{led-reopened, units-reopened}
use Rattle.fdp_found.proofs.reopened.openings_keep_tables.Goals as goal

pub returns-clause-led : goal.returns-clause-led
returns-clause-led c = led-reopened

pub returns-clause-units : goal.returns-clause-units
returns-clause-units c = units-reopened
