use Rattle.std.proofs.Common.{ℕ, ◌∙◌, ◌++◌, List, ap, arith}
use Rattle.fdp_base.specs.declared.event.Event.{Event}
use Rattle.fdp_base.specs.declared.event.EventKind.TheVariants as kinds
use Rattle.fdp_base.specs.Numbers.{numbers_below}
use Rattle.fdp_rules.specs.Events.{handle_event}
use Rattle.fdp_rules.specs.Room.{handles_in_force}
use Rattle.fdp_tables.specs.State.{plain_of}
use Rattle.fdp_plain_answers.proofs.Closing.{kept_images}
use Rattle.fdp_tables.proofs.Collecting.{collecting_end, collecting_next}
use Rattle.fdp_plain_answers.proofs.openings.push_opening.Invariants.{of_handle}
use Rattle.fdp_plain_answers.proofs.openings.push_opening.Goals as goal

pub loop-ruh-preserved : goal.loop-ruh-preserved
loop-ruh-preserved c =
    let k = c.args.kept.now in
    collecting_next (of_handle k c.args.rg) (handles_in_force k.config (plain_of k)) c.loop-ruh.ruh c.args.into.now.items c.loop-ruh.into.items _ (omega (arith, c.handles_in_force-ruh-end.ensures.value)) c.in_ok-push_modified.ensures c.loop-ruh.invariant

pub returns : goal.returns
returns c =
    let k = c.args.kept.now in
    let s = plain_of k in
    collecting_end (of_handle k c.args.rg) (handles_in_force k.config s) c.loop-ruh.ruh c.args.into.now.items c.loop-ruh.into.items (omega (arith, c.handles_in_force-ruh-end.ensures.value)) c.loop-ruh.invariant
    ∙ ap (λ (xs : List Event). c.args.into.now.items ++ xs)
    (kept_images (λ (x : Event). s.reports x.ruh x.kind) (handle_event s kinds.HandlesModified c.args.rg) (numbers_below (handles_in_force k.config s)))
