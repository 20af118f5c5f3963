use Rattle.std.proofs.Common.{◌-◌, ◌+◌, arith}
use Rattle.fdp_units.proofs.Groups.{next-set}
use Rattle.fdp_units.proofs.group_units.all_free.Goals as goal

pub loop-index-preserved : goal.loop-index-preserved
loop-index-preserved c =
    next-set c.loop-index.index (c.args.count - c.loop-index.index) (c.args.count - (c.loop-index.index + 1)) c.loop-index.keys c.set.new.self (omega (arith, c.loop-index-test.true)) c.loop-index.invariant c.set.ensures
