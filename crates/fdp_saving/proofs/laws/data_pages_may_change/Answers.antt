use Rattle.fdp_saving.proofs.DataPages.{saver_stays, says_stay}
use Rattle.fdp_saving.proofs.laws.data_pages_may_change.Goals as goal

pub returns-clause-stands : goal.returns-clause-stands
returns-clause-stands c = saver_stays

pub returns-clause-says : goal.returns-clause-says
returns-clause-says c = says_stay
