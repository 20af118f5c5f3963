use Rattle.fdp_trails.proofs.Following.{pass-copied_elsewhere, pass-ended, pass-erased_elsewhere, pass-moved_elsewhere, pass-placed, pass-renamed}
use Rattle.fdp_trails.proofs.laws.passes_follow_entries.Goals as goal

pub returns-clause-ended : goal.returns-clause-ended
returns-clause-ended c = pass-ended

pub returns-clause-renames : goal.returns-clause-renames
returns-clause-renames c = pass-renamed

pub returns-clause-placed : goal.returns-clause-placed
returns-clause-placed c = pass-placed

pub returns-clause-copied : goal.returns-clause-copied
returns-clause-copied c = pass-copied_elsewhere

pub returns-clause-moved : goal.returns-clause-moved
returns-clause-moved c = pass-moved_elsewhere

pub returns-clause-erased : goal.returns-clause-erased
returns-clause-erased c = pass-erased_elsewhere
