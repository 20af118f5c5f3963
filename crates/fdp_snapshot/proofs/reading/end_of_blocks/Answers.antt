use Rattle.std.proofs.Common.{arith}
use Rattle.fdp_snapshot.proofs.Blocks.{blocks_next, blocks_past}
use Rattle.fdp_snapshot.proofs.reading.end_of_blocks.Goals as goal

pub returns-then-size-len-clause-none : goal.returns-then-size-len-clause-none
returns-then-size-len-clause-none c none =
    let inv = c.loop-space.invariant in
    let next = blocks_next c.loop-space.space-index c.args.spaces.now c.space-item.result (omega arith) c.space-item.is in
    omega (arith, next, inv.left, inv.within, c.size_of-size.ensures, c.if-size-len.true)

pub loop-space-preserved : goal.loop-space-preserved
loop-space-preserved c =
    let inv = c.loop-space.invariant in
    let next = blocks_next c.loop-space.space-index c.args.spaces.now c.space-item.result (omega arith) c.space-item.is in
    record {
      left = omega (arith, next, inv.left, c.size_of-size.ensures);
      within = omega (arith, inv.within, c.if-size-len.false);
    }

pub returns-clause-end : goal.returns-clause-end
returns-clause-end c =
    let past = blocks_past c.loop-space.space-index c.args.spaces.now (omega arith) in
    omega (arith, past, c.loop-space.invariant.left)
