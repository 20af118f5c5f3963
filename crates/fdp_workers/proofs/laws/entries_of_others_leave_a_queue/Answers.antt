use Rattle.fdp_workers.proofs.Marks.{others-leave}
use Rattle.fdp_workers.proofs.laws.entries_of_others_leave_a_queue.Goals as goal

pub returns : goal.returns
returns c = others-leave
