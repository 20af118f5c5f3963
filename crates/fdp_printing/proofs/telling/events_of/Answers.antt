use Rattle.std.proofs.Common.{◌<◌, ◌∙◌, arith, sym}
use Rattle.fdp_printing.specs.Closing.{events_of}
use Rattle.fdp_printing.proofs.Told.{event_more, latest-ended}
use Rattle.fdp_printing.proofs.telling.events_of.Goals as goal

pub loop-index-preserved : goal.loop-index-preserved
loop-index-preserved g c =
    let more = event_more (events_of c.args.host (g.T.Telling.point c.args.drive.now)) c.loop-index.events.items c.loop-index.index c.in-Some.event c.loop-index.invariant.0 (sym c.in-Some.ensures.event) in
    (c.in_ok-push.ensures.items ∙ more, λ _. c.in-Some.ensures.few)

pub returns : goal.returns
returns g c =
    let some : 0 < c.loop-index.index = omega arith in
    let few = c.loop-index.invariant.1 some in
    latest-ended (events_of c.args.host (g.T.Telling.point c.args.drive.now)) c.loop-index.events.items c.loop-index.index (omega (arith, few)) c.loop-index.invariant.0
