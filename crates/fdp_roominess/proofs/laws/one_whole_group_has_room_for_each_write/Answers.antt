use Rattle.fdp_roominess.proofs.Capacity.{history-clean, step-clean}
use Rattle.fdp_roominess.proofs.laws.one_whole_group_has_room_for_each_write.Goals as goal

pub returns-clause-step : goal.returns-clause-step
returns-clause-step c = λ told d p e one orderly listed whole follows. step-clean d p one orderly listed whole told e follows

pub returns-clause-history : goal.returns-clause-history
returns-clause-history c = λ told d f es valid one orderly listed legal none. history-clean told d f valid one es orderly listed legal none
