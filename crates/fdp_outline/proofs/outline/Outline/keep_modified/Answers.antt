use Rattle.std.proofs.Common.{◌∷◌, [], ap, ◌∙◌}
use Rattle.fdp_base.specs.declared.event.Event.{Event}
use Rattle.fdp_base.specs.declared.event.EventKind.TheVariants as kinds
use Rattle.fdp_events.proofs.Events.{handle_event-is}
use Rattle.fdp_snapshot.specs.declared.state.Summary.{Summary}
use Rattle.fdp_outline.specs.Events.{with_events}
use Rattle.fdp_outline.proofs.outline.Outline.keep_modified.Goals as goal

pub returns : goal.returns
returns c s at =
    c.keep.ensures.events
    ∙ ap (λ (x : Summary). with_events x (c.handle_event-event.result ∷ [])) c.self.view_is
    ∙ ap (λ (e : Event). with_events c.args.self.now (e ∷ [])) (c.handle_event-event.ensures.event ∙ handle_event-is s kinds.HandlesModified c.args.rg c.args.ruh c.args.position at)
