use Rattle.fdp_isolation.proofs.Leaving.{alone-fresh}
use Rattle.fdp_isolation.proofs.Promised.{laned-fresh, opened-fresh}
use Rattle.fdp_isolation.proofs.laws.fresh_drives_are_kept_apart.Goals as goal

pub returns-clause-opened : goal.returns-clause-opened
returns-clause-opened c = opened-fresh

pub returns-clause-laned : goal.returns-clause-laned
returns-clause-laned c = laned-fresh

pub returns-clause-alone : goal.returns-clause-alone
returns-clause-alone c = alone-fresh
