use Rattle.fdp_binary.specs.Saying.{IsRange}
use Rattle.fdp_binary.proofs.Laid.{laid-step}
use Rattle.fdp_binary.proofs.data.ranges_of.Goals as goal

pub loop-index-preserved : goal.loop-index-preserved
loop-index-preserved c = laid-step IsRange 16 c.loop-index.index c.args.body.now _ _ _ c.loop-index.invariant c.range_of.ensures c.in_ok-push.ensures.items
