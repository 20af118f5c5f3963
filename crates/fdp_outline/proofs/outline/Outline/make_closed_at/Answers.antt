use Rattle.std.proofs.Common.{◌∙◌, ap, refl, sym}
use Rattle.std.specs.Prelude.{option_map}
use Rattle.fdp_snapshot.specs.declared.state.Summary.{Summary}
use Rattle.fdp_outline.specs.Events.{with_events}
use Rattle.fdp_outline.specs.Handles.{handles_at, named_in, named_target}
use Rattle.fdp_outline.proofs.Keeping.{none-more}
use Rattle.fdp_outline.proofs.Telling.{closed_none, closed_not, closed_some}
use Rattle.fdp_outline.proofs.outline.Outline.make_closed_at.Goals as goal

pub returns-in-Some : goal.returns-in-Some
returns-in-Some c x at same =
    let named = named_target (c.in-Some.rg, c.in-Some.ruh) in
    c.keep_closed.ensures x named at refl refl
    ∙ ap (with_events c.args.self.now)
    (sym
    (closed_some c.args.config.now x c.args.nsid c.args.closed c.args.place c.args.pid (handles_at c.args.self.now c.args.nsid) named same (sym c.has_bit.ensures ∙ c.if-has_bit.true)
    (sym (c.named_by.ensures ∙ ap (λ (s : Summary). named_in c.args.config.now (handles_at s c.args.nsid) c.args.pid) c.summary.ensures.summary) ∙ ap (option_map named_target) c.in-Some.is)))

pub returns-in_default : goal.returns-in_default
returns-in_default c x at same =
    none-more c.args.self.now c.known.ensures.summary
    ∙ ap (with_events c.args.self.now)
    (sym
    (closed_none c.args.config.now x c.args.nsid c.args.closed c.args.place c.args.pid (handles_at c.args.self.now c.args.nsid) same (sym c.has_bit.ensures ∙ c.if-has_bit.true)
    (sym (c.named_by.ensures ∙ ap (λ (s : Summary). named_in c.args.config.now (handles_at s c.args.nsid) c.args.pid) c.summary.ensures.summary) ∙ ap (option_map named_target) c.in_default.is)))

pub returns-else-has_bit : goal.returns-else-has_bit
returns-else-has_bit c x at same =
    none-more c.args.self.now c.known.ensures.summary
    ∙ ap (with_events c.args.self.now) (sym (closed_not c.args.config.now x c.args.nsid c.args.closed c.args.place c.args.pid (sym c.has_bit.ensures ∙ c.if-has_bit.false)))
