use Rattle.fdp_make.proofs.Forms.{own-trace}
use Rattle.fdp_make.proofs.laws.each_queue_has_its_trace.Goals as goal

pub returns : goal.returns
returns c = own-trace
