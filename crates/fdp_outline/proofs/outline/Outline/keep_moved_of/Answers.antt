use Rattle.std.proofs.Common.{◌≡◌, [], ◌∷◌, ap, subst, sym, ◌∙◌}
use Rattle.fdp_base.specs.declared.event.Event.{Event}
use Rattle.fdp_rules.specs.Events.{reallocated}
use Rattle.fdp_snapshot.specs.declared.state.Summary.{Summary}
use Rattle.fdp_outline.specs.Events.{names_of_handle, with_events}
use Rattle.fdp_outline.proofs.Keeping.{moved-event, unmoved, unreported}
use Rattle.fdp_outline.proofs.outline.Outline.keep_moved_of.Goals as goal

pub returns-then-not-reports : goal.returns-then-not-reports
returns-then-not-reports c s at =
    let names = names_of_handle c.args.blocks.now c.args.ruh in
    subst (λ (x : Summary). x ≡ with_events x (reallocated s c.args.rg c.args.ruh names)) c.self.view_is
    (unreported c.self.inside.summary c.self.invariant.summary s c.args.rg c.args.ruh names (sym c.reports.ensures ∙ c.if-not-reports.true))

pub returns-in_default : goal.returns-in_default
returns-in_default c s at =
    let names = names_of_handle c.args.blocks.now c.args.ruh in
    subst (λ (x : Summary). x ≡ with_events x (reallocated s c.args.rg c.args.ruh names)) c.self.view_is
    (unmoved c.self.inside.summary c.self.invariant.summary s c.args.rg c.args.ruh names (sym c.in_default.ensures))

pub returns-in-Some : goal.returns-in-Some
returns-in-Some c s at =
    let names = names_of_handle c.args.blocks.now c.args.ruh in
    c.keep.ensures.events
    ∙ ap (λ (x : Summary). with_events x (c.reallocated_event-event.result ∷ [])) c.self.view_is
    ∙ ap (λ (e : Event). with_events c.args.self.now (e ∷ [])) c.reallocated_event-event.ensures.event
    ∙ ap (with_events c.args.self.now) (moved-event s c.args.rg c.args.ruh names c.in-Some.first c.count_of.result (sym c.in-Some.ensures) c.count_of.ensures.value c.args.position at)
