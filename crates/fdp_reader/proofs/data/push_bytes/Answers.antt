use Rattle.std.proofs.Common.{◌-◌, ◌+◌, arith}
use Rattle.fdp_reader.proofs.Steps.{bytes-end, bytes-step}
use Rattle.fdp_reader.proofs.data.push_bytes.Goals as goal

pub loop-preserved : goal.loop-preserved
loop-preserved c =
    rw (c.in_ok-push.ensures.items, c.byte.ensures, c.front.ensures, c.behind-rest.ensures)
    (bytes-step (c.args.size - c.loop.counter) (c.args.size - (c.loop.counter + 1)) c.loop.rest.now c.loop.into.items _ (omega arith) c.loop.invariant)

pub returns : goal.returns
returns c = bytes-end (c.args.size - c.loop.counter) c.loop.rest.now c.loop.into.items _ (omega arith) c.loop.invariant
