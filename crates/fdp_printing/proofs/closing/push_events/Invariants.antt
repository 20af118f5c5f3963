use Rattle.std.proofs.Common.{◌≡◌, ◌++◌, flat_map, take}
use Rattle.fdp_output.specs.RunOutput.{event_line}
use Rattle.fdp_printing.proofs.closing.push_events.Given as goal

abbrev pub invariant-loop-event : goal.invariant-loop-event
invariant-loop-event l = l.into.items ≡ l.fn.into.items ++ flat_map (event_line l.class) (take l.event-index l.events)
