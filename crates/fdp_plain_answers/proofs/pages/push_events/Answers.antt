use Rattle.std.proofs.Common.{ℕ, List, ◌++◌, ◌∙◌, ap, arith}
use Rattle.fdp_rules.specs.LogPages.{event_bytes}
use Rattle.fdp_logs.proofs.Appending.{appending_over_end, appending_over_next}
use Rattle.fdp_plain_answers.proofs.pages.push_events.Goals as goal

pub loop-event-preserved : goal.loop-event-preserved
loop-event-preserved c =
    appending_over_next event_bytes c.args.events.now c.loop-event.event-index c.args.log.now.items c.loop-event.log.items _ _ (omega arith)
    (c.in_ok-extend_from_slice.ensures.items ∙ ap (λ (bytes : List ℕ). c.loop-event.log.items ++ bytes) c.event_frame.ensures) c.loop-event.invariant

pub returns : goal.returns
returns c =
    appending_over_end event_bytes c.args.events.now c.loop-event.event-index c.args.log.now.items c.loop-event.log.items (omega arith) c.loop-event.invariant
