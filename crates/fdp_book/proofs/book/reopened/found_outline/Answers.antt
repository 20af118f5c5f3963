use Rattle.std.proofs.Common.{◌≡◌, ◌+◌, ◌∙◌, ℕ, ap, flat_map, map, refl, subst, sym}
use Rattle.fdp_base.specs.declared.entry.Entry.TheVariants as entries
use Rattle.fdp_base.specs.declared.entry.Totals.{Totals}
use Rattle.fdp_base.specs.declared.event.EventKind.TheVariants as kinds
use Rattle.fdp_base.specs.Numbers.{numbers_below}
use Rattle.fdp_outline.specs.Events.{with_events, with_kept}
use Rattle.fdp_rules.specs.Events.{events_of_entry, handle_event}
use Rattle.fdp_rules.specs.History.{first_state, fresh}
use Rattle.fdp_rules.specs.PlainState.{PlainState}
use Rattle.fdp_book.specs.Saving.{AreSmall}
use Rattle.fdp_snapshot.specs.declared.state.Summary.{Summary}
use Rattle.fdp_book.proofs.Histories.Finding.{in_force-said, opened-by}
use Rattle.fdp_book.proofs.book.reopened.found_outline.Goals as goal

pub returns : goal.returns
unfolding events_of_entry
returns c p h at =
    let cfg = c.args.config.now in
    let handles = c.handle_count-handles.ensures.value ∙ in_force-said cfg p c.args.summary h in
    let is : c.keep_reopened.new.self ≡ with_events c.args.summary (events_of_entry cfg p.state entries.Reopened) =
    c.keep_reopened.ensures p.state (ap (λ n. n + 1) (sym at ∙ sym (ap (λ (t : Totals). t.position) h.totals)))
    ∙ ap (λ (s : Summary). with_events s (flat_map (λ rg. map (handle_event p.state kinds.HandlesModified rg) (numbers_below c.handle_count-handles.result)) (numbers_below cfg.groups))) c.new-outline.ensures
    ∙ ap (λ (n : ℕ). with_events c.args.summary (flat_map (λ rg. map (handle_event p.state kinds.HandlesModified rg) (numbers_below n)) (numbers_below cfg.groups))) handles in
    opened-by cfg p c.args.summary c.keep_reopened.new.self _ h is c.count.ensures

pub count-requires-clause-small : goal.count-requires-clause-small
unfolding with_kept first_state fresh
count-requires-clause-small c =
    let cfg = c.args.config.now in
    let before : PlainState = record (first_state cfg (fresh cfg)) { position = c.args.summary.totals.position } in
    subst (λ (s : Summary). AreSmall s.totals) (sym (c.keep_reopened.ensures before refl))
    (subst (λ (s : Summary). AreSmall s.totals) (sym c.new-outline.ensures) c.requires.small)
