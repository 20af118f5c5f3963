use Rattle.fdp_found.proofs.Ordering.{listed-found, orderly-found, standing-found}
use Rattle.fdp_found.proofs.order.found_drives_are_in_order.Goals as goal

pub returns-clause-orderly : goal.returns-clause-orderly
returns-clause-orderly c config cells r valid of_flash is can = orderly-found config cells r is valid of_flash can

pub returns-clause-standing : goal.returns-clause-standing
returns-clause-standing c config cells r valid is can = standing-found config cells r is valid can

pub returns-clause-listed : goal.returns-clause-listed
returns-clause-listed c = listed-found
