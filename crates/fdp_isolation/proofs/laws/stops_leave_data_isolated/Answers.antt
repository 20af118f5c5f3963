use Rattle.fdp_isolation.proofs.Stopped.{erased-isolated, placed-isolated, saved-isolated}
use Rattle.fdp_isolation.proofs.laws.stops_leave_data_isolated.Goals as goal

pub returns : goal.returns
returns c = record { placed = placed-isolated; erased = erased-isolated; saved = saved-isolated }
