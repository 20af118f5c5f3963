use Rattle.fdp_binary.specs.Saying.{IsPid}
use Rattle.fdp_binary.proofs.Laid.{laid-step}
use Rattle.fdp_binary.proofs.data.pids_of.Goals as goal

pub loop-index-preserved : goal.loop-index-preserved
loop-index-preserved c = laid-step IsPid 2 c.loop-index.index c.args.body.now _ _ _ c.loop-index.invariant c.pid_of.ensures c.in_ok-push.ensures.items
