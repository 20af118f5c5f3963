use Rattle.fdp_plain_effects.specs.Going.{counted}
use Rattle.fdp_tables.proofs.Walks.{mapped_step}
use Rattle.fdp_plain_effects.proofs.going.count_in.Goals as goal

pub loop-going-preserved : goal.loop-going-preserved
loop-going-preserved c =
    mapped_step (counted c.args.ticket) c.args.rows.now c.loop-going.going-index c.loop-going.rows c.going-item.result c.count_one.new.going c.loop-going-test.true c.loop-going.invariant c.count_one.ensures
