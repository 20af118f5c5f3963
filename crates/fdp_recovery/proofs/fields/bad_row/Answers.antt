use Rattle.std.proofs.Common.{◌≡◌, ◌∙◌, ◌+◌, ◌≤◌, List, Option, arith, ap, drop, length, lit<, subst, sym, take}
use Rattle.std.specs.Prelude.{not, position}
use Rattle.fdp_base.specs.declared.event.Event.{Event}
use Rattle.fdp_base.specs.Placement.{full_budget}
use Rattle.fdp_rules.specs.Events.{is_host_event}
use Rattle.fdp_snapshot.specs.declared.space.Space.{Space}
use Rattle.fdp_image.specs.BadFields.{bad_row, bad_space, has_any_bit, has_stray_bit, or_else, row_at}
use Rattle.fdp_recovery.proofs.Bounds.{few_of}
use Rattle.fdp_recovery.proofs.fields.bad_row.Goals as goal

pub returns-clause-value : goal.returns-clause-value
unfolding bad_row
returns-clause-value c =
    let s = c.args.summary.now in
    let n = c.args.count in
    let a : c.row_at.result ≡ row_at 112 1 (position has_stray_bit (take n s.masks)) = c.row_at.ensures.value ∙ ap (row_at 112 1) c.stray_mask-stray.ensures.value in
    let b : c.row_at-2.result ≡ row_at (112 + n) 1 (position has_any_bit (drop n s.masks)) = c.row_at-2.ensures.value ∙ (λ i. row_at (112 + c.from.ensures i) 1 (c.other_mask-other.ensures.value i)) in
    let room = c.from-room.ensures ∙ c.full_budget.ensures in
    let space : c.bad_space-space.result ≡ bad_space n s.totals.position (full_budget c.args.config.now n) s.spaces =
    c.bad_space-space.ensures.value ∙ (λ i. bad_space n s.totals.position (room i) (c.as_slice.ensures i)) in
    let d : c.row_at-3.result ≡ row_at 128 40 (bad_space n s.totals.position (full_budget c.args.config.now n) s.spaces) = c.row_at-3.ensures.value ∙ ap (row_at 128 40) space in
    let host : c.event_of-host.result ≡ position (λ (e : Event). not (is_host_event e)) s.host_events = c.event_of-host.ensures.value in
    let e : c.row_at-4.result ≡ row_at 832 64 (position (λ (e : Event). not (is_host_event e)) s.host_events) = c.row_at-4.ensures.value ∙ ap (row_at 832 64) host in
    let controller : c.event_of-controller.result ≡ position is_host_event s.controller_events = c.event_of-controller.ensures.value in
    let f : c.row_at-5.result ≡ row_at 2880 64 (position is_host_event s.controller_events) = c.row_at-5.ensures.value ∙ ap (row_at 2880 64) controller in
    let events = c.or_else.ensures.value ∙ (λ i. or_else (e i) (f i)) in
    let lists = c.or_else-2.ensures.value ∙ (λ i. or_else (d i) (events i)) in
    let rest = c.or_else-3.ensures.value ∙ (λ i. or_else (b i) (lists i)) in
    c.or_else-4.ensures.value ∙ (λ i. or_else (a i) (rest i))

pub returns-clause-bound : goal.returns-clause-bound
returns-clause-bound c =
    let host = few_of c.event_of-host.result _ 32 c.event_of-host.ensures.bound c.requires.summary.host_count in
    let controller = few_of c.event_of-controller.result _ 32 c.event_of-controller.ensures.bound c.requires.summary.controller_count in
    let spaces = few_of c.bad_space-space.result _ 16 c.bad_space-space.ensures.bound (subst (λ (xs : List (Option Space)). length xs ≤ 16) (sym c.as_slice.ensures) (omega (arith, c.requires.summary.places))) in
    c.or_else-4.ensures.bound (c.row_at.ensures.bound 16 (lit< tt) c.stray_mask-stray.ensures.bound)
    (c.or_else-3.ensures.bound (c.row_at-2.ensures.bound 16 (omega (arith, c.from.ensures, c.requires.count)) c.other_mask-other.ensures.bound)
    (c.or_else-2.ensures.bound (c.row_at-3.ensures.bound 16 (lit< tt) spaces)
    (c.or_else.ensures.bound (c.row_at-4.ensures.bound 32 (lit< tt) host) (c.row_at-5.ensures.bound 32 (lit< tt) controller))))
