use Rattle.std.proofs.Common.{arith}
use Rattle.fdp_plain.proofs.commit.append.Goals as goal

pub push_reserved-requires : goal.push_reserved-requires
push_reserved-requires c = omega (arith, c.loop-event.invariant.len, c.loop-event.invariant.capacity, c.loop-event-test.true, c.requires)
