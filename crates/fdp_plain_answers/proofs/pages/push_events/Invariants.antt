use Rattle.fdp_rules.specs.LogPages.{event_bytes}
use Rattle.fdp_logs.proofs.Appending.{IsAppendingOver}
use Rattle.fdp_plain_answers.proofs.pages.push_events.Given as goal

abbrev pub invariant-loop-event : goal.invariant-loop-event
invariant-loop-event l = IsAppendingOver event_bytes l.events l.event-index l.initial.log.items l.log.items
