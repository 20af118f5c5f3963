use Rattle.fdp_trails.proofs.Grouping.{all-copied, all-erased, all-left, all-moved, all-placed, all-renamed}
use Rattle.fdp_trails.proofs.groups.all_passes_follow_entries.Goals as goal

pub returns-clause-left : goal.returns-clause-left
returns-clause-left c = all-left

pub returns-clause-renames : goal.returns-clause-renames
returns-clause-renames c = all-renamed

pub returns-clause-placed : goal.returns-clause-placed
returns-clause-placed c = all-placed

pub returns-clause-copied : goal.returns-clause-copied
returns-clause-copied c = all-copied

pub returns-clause-moved : goal.returns-clause-moved
returns-clause-moved c = all-moved

pub returns-clause-erased : goal.returns-clause-erased
returns-clause-erased c = all-erased
