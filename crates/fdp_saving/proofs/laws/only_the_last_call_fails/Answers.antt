use Rattle.fdp_saving.proofs.Failing.{doubtful_failed, renewed_failed, renewed_well, saved_well, unsaved_failed, written_failed, written_well}
use Rattle.fdp_saving.proofs.laws.only_the_last_call_fails.Goals as goal

pub returns-clause-saved : goal.returns-clause-saved
returns-clause-saved c = saved_well

pub returns-clause-doubtful : goal.returns-clause-doubtful
returns-clause-doubtful c = doubtful_failed

pub returns-clause-unsaved : goal.returns-clause-unsaved
returns-clause-unsaved c = unsaved_failed

pub returns-clause-written : goal.returns-clause-written
returns-clause-written c = written_well

pub returns-clause-stopped : goal.returns-clause-stopped
returns-clause-stopped c = written_failed

pub returns-clause-renewed : goal.returns-clause-renewed
returns-clause-renewed c = renewed_well

pub returns-clause-failed : goal.returns-clause-failed
returns-clause-failed c = renewed_failed
