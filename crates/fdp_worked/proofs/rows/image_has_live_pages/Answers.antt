use Rattle.fdp_worked.proofs.Read.{live-found, live-going, live-left, live-moved, live-written}
use Rattle.fdp_worked.proofs.rows.image_has_live_pages.Goals as goal

pub returns-clause-found : goal.returns-clause-found
returns-clause-found c = live-found

pub returns-clause-going : goal.returns-clause-going
returns-clause-going c = live-going

pub returns-clause-left : goal.returns-clause-left
returns-clause-left c = live-left

pub returns-clause-moved : goal.returns-clause-moved
returns-clause-moved c = live-moved

pub returns-clause-written : goal.returns-clause-written
returns-clause-written c = live-written
