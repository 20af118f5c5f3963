use Rattle.std.proofs.Common.{refl, arith}
use Rattle.fdp_rules.specs.LogPages.{event_bytes}
use Rattle.fdp_pieces.proofs.Putting.{puts_end, puts_next_even, puts_nothing}
use Rattle.fdp_log_pages.proofs.Lengths.{event_length}
use Rattle.fdp_log_pages.proofs.events.put_each_event.Goals as goal

pub loop-index-init : goal.loop-index-init
loop-index-init c = puts_nothing c.args.offset c.args.start c.args.into.now

pub loop-index-preserved : goal.loop-index-preserved
loop-index-preserved c =
    let here = c.loop-index.index in
    puts_next_even c.args.offset c.args.start 64 event_bytes c.args.events.now here _ _ c.args.into.now c.loop-index.into _ event_length (omega arith) refl c.loop-index.invariant c.put_event.ensures

pub returns : goal.returns
returns c = puts_end c.args.offset c.args.start event_bytes c.args.events.now c.loop-index.index c.args.into.now c.loop-index.into (omega arith) c.loop-index.invariant
