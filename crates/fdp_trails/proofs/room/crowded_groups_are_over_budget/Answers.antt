use Rattle.fdp_trails.proofs.Crowding.{crowded-exceeds, crowded-over}
use Rattle.fdp_trails.proofs.room.crowded_groups_are_over_budget.Goals as goal

pub returns-clause-write : goal.returns-clause-write
returns-clause-write c = crowded-over

pub returns-clause-going : goal.returns-clause-going
returns-clause-going c = crowded-exceeds
