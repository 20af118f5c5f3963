use Rattle.fdp_owners.proofs.Tables.{live-fewer, live-most}
use Rattle.fdp_owners.proofs.laws.live_pages_are_used.Goals as goal

pub returns-clause-most : goal.returns-clause-most
returns-clause-most c = live-most

pub returns-clause-fewer : goal.returns-clause-fewer
returns-clause-fewer c = live-fewer
