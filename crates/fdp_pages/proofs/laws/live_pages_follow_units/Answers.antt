use Rattle.fdp_pages.proofs.Held.{live-others, live-own}
use Rattle.fdp_pages.proofs.laws.live_pages_follow_units.Goals as goal

pub returns-clause-own : goal.returns-clause-own
returns-clause-own c t new unit x is change = live-own t new unit x change is

pub returns-clause-others : goal.returns-clause-others
returns-clause-others c t new unit rg x ne change = live-others t new unit x change rg ne
