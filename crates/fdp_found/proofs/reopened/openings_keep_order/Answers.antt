use Rattle.fdp_found.proofs.Reopening.{legal-opened, listed-opened, orderly-opened, standing-opened}
use Rattle.fdp_found.proofs.reopened.openings_keep_order.Goals as goal

pub returns-clause-legal : goal.returns-clause-legal
returns-clause-legal c told config f image = legal-opened config f told image

pub returns-clause-orderly : goal.returns-clause-orderly
returns-clause-orderly c = orderly-opened

pub returns-clause-standing : goal.returns-clause-standing
returns-clause-standing c = standing-opened

pub returns-clause-listed : goal.returns-clause-listed
returns-clause-listed c = listed-opened
