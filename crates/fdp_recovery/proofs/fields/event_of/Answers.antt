use Rattle.std.proofs.Common.{◌∙◌, ◌+◌, ℕ, Option, ap, length, sym}
use Rattle.std.specs.Prelude.{if◌then◌else◌, not, option_map, position}
use Rattle.fdp_base.specs.declared.event.Event.{Event}
use Rattle.fdp_image.specs.BadFields.{or_else}
use Rattle.fdp_rules.specs.Events.{is_host_event}
use Rattle.fdp_recovery.proofs.Bounds.{position_behind, position_bound}
use Rattle.fdp_recovery.proofs.fields.event_of.Goals as goal

pub returns-clause-value : goal.returns-clause-value
returns-clause-value c =
    let older = c.pieces.result.0.now in
    let newer = c.pieces.result.1.now in
    let test = λ (e : Event). if c.args.host then is_host_event e else not (is_host_event e) in
    c.behind.ensures
    ∙ ap (λ (o : Option ℕ). or_else o (option_map (λ i. length older + i) c.event_among-2.result)) c.event_among.ensures.value
    ∙ ap (λ (o : Option ℕ). or_else (position test older) (option_map (λ i. length older + i) o)) c.event_among-2.ensures.value
    ∙ sym (position_behind test older newer)
    ∙ ap (position test) c.pieces.ensures

pub returns-clause-bound : goal.returns-clause-bound
returns-clause-bound c = position_bound (λ (e : Event). if c.args.host then is_host_event e else not (is_host_event e)) c.args.events.now c.behind.result (returns-clause-value c)
