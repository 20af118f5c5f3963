use Rattle.std.proofs.Common.{◌∙◌, ℕ, ap, flat_map}
use Rattle.fdp_base.specs.Numbers.{numbers_below}
use Rattle.fdp_base.specs.Placement.{handle_count}
use Rattle.fdp_rules.specs.Events.{reallocated}
use Rattle.fdp_snapshot.specs.declared.state.Summary.{Summary}
use Rattle.fdp_outline.specs.Events.{names_of_handle, with_events}
use Rattle.fdp_outline.proofs.outline.Outline.make_moved.Goals as goal

pub returns : goal.returns
returns c x at =
    let kept = λ (rg count : ℕ). with_events c.args.self.now (flat_map (λ ruh. reallocated x rg ruh (names_of_handle c.args.moved.now ruh)) (numbers_below count)) in
    c.keep_moved.ensures x at
    ∙ ap (λ (rg : ℕ). kept rg c.handle_count-handles.result) c.group_of.ensures.value
    ∙ ap (kept _) (c.handle_count-handles.ensures.value ∙ ap (λ (s : Summary). handle_count c.args.config.now s.enabled s.index) c.summary-summary.ensures.summary)
