use Rattle.std.proofs.Common.{Bool, not, arith}
use Rattle.std.specs.Prelude.{if◌then◌else◌}
use Rattle.fdp_base.specs.declared.event.Event.{Event}
use Rattle.fdp_rules.specs.Events.{is_host_event}
use Rattle.fdp_plain_answers.proofs.Choosing.{choosing_end, choosing_next}
use Rattle.fdp_plain_answers.proofs.log.events_of_class.Goals as goal

-- an event is of the class
abbrev is_of : Bool → Event → Bool
is_of host e = if host then is_host_event e else not (is_host_event e)

pub loop-event-preserved : goal.loop-event-preserved
loop-event-preserved c =
    choosing_next (is_of c.args.host) c.args.events.now c.loop-event.event-index c.loop-event.chosen.items _ _ (omega arith) c.in_ok-choose.ensures c.loop-event.invariant

pub returns : goal.returns
returns c =
    choosing_end (is_of c.args.host) c.args.events.now c.loop-event.event-index c.loop-event.chosen.items (omega arith) c.loop-event.invariant
