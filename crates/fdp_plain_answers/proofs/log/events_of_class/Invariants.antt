use Rattle.std.proofs.Common.{not}
use Rattle.std.specs.Prelude.{if◌then◌else◌}
use Rattle.fdp_base.specs.declared.event.Event.{Event}
use Rattle.fdp_rules.specs.Events.{is_host_event}
use Rattle.fdp_plain_answers.proofs.Choosing.{IsChoosing}
use Rattle.fdp_plain_answers.proofs.log.events_of_class.Given as goal

abbrev pub invariant-loop-event : goal.invariant-loop-event
invariant-loop-event l = IsChoosing (λ (e : Event). if l.host then is_host_event e else not (is_host_event e)) l.events l.event-index l.chosen.items
