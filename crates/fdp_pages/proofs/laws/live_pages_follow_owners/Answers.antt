use Rattle.fdp_pages.proofs.Lives.{live-cleared, live-elsewhere, live-moves}
use Rattle.fdp_pages.proofs.laws.live_pages_follow_owners.Goals as goal

pub returns-clause-cleared : goal.returns-clause-cleared
returns-clause-cleared c old new spot was h some owners = live-cleared old new spot was h some owners

pub returns-clause-elsewhere : goal.returns-clause-elsewhere
returns-clause-elsewhere c old new spot rg value was h is ne owners = live-elsewhere old new spot rg was h is ne value owners

pub returns-clause-moved : goal.returns-clause-moved
returns-clause-moved c old new rg index copy other was is h read owners there = live-moves old new rg index copy other was is h read owners there
