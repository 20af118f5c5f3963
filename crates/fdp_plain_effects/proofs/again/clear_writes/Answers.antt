use Rattle.std.proofs.Common.{None}
use Rattle.fdp_tables.proofs.Walks.{mapped_step}
use Rattle.fdp_plain_effects.proofs.again.clear_writes.Goals as goal

pub loop-going-preserved : goal.loop-going-preserved
loop-going-preserved c =
    mapped_step (λ x. None) c.args.rows.now c.loop-going.going-index c.loop-going.rows c.going-item.result c.clear_write.new.going c.loop-going-test.true c.loop-going.invariant c.clear_write.ensures
