use Rattle.std.proofs.Common.{◌∙◌, arith}
use Rattle.fdp_reader.proofs.Steps.{zero-step, zero-none, zero-end}
use Rattle.fdp_reader.proofs.carried.push_zeros.Goals as goal

pub loop-init : goal.loop-init
loop-init c = zero-none c.args.into.now.items

pub loop-preserved : goal.loop-preserved
loop-preserved c = c.in_ok-push.ensures.items ∙ zero-step c.loop.counter c.args.into.now.items c.loop.into.items c.loop.invariant

pub returns : goal.returns
returns c = zero-end c.loop.counter c.args.count c.args.into.now.items c.loop.into.items (omega arith) c.loop.invariant
