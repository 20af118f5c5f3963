use Rattle.std.proofs.Common.{ℕ, ◌∙◌, ◌++◌, List, ap, arith, map}
use Rattle.fdp_base.specs.declared.config.DriveConfig.{DriveConfig}
use Rattle.fdp_base.specs.declared.event.Event.{Event}
use Rattle.fdp_base.specs.declared.event.EventKind.TheVariants as kinds
use Rattle.fdp_base.specs.Numbers.{numbers_below}
use Rattle.fdp_rules.specs.Events.{handle_event}
use Rattle.fdp_rules.specs.Room.{handles_in_force}
use Rattle.fdp_tables.specs.State.{plain_of}
use Rattle.fdp_plain_answers.proofs.Closing.{kept_pieces}
use Rattle.fdp_tables.proofs.Collecting.{collecting_end, collecting_next}
use Rattle.fdp_plain_answers.proofs.openings.push_openings.Invariants.{of_group}
use Rattle.fdp_plain_answers.proofs.openings.push_openings.Goals as goal

pub loop-rg-preserved : goal.loop-rg-preserved
loop-rg-preserved c =
    let k = c.args.kept.now in
    let groups = ap (λ (d : DriveConfig). d.groups) c.config.ensures.value in
    collecting_next (of_group k) k.config.groups c.loop-rg.rg c.args.into.now.items c.loop-rg.into.items _ (omega (arith, groups)) c.in_ok-push_opening.ensures c.loop-rg.invariant

pub returns : goal.returns
returns c =
    let k = c.args.kept.now in
    let s = plain_of k in
    let groups = ap (λ (d : DriveConfig). d.groups) c.config.ensures.value in
    collecting_end (of_group k) k.config.groups c.loop-rg.rg c.args.into.now.items c.loop-rg.into.items (omega (arith, groups)) c.loop-rg.invariant
    ∙ ap (λ (xs : List Event). c.args.into.now.items ++ xs)
    (kept_pieces (λ (x : Event). s.reports x.ruh x.kind) (λ (rg : ℕ). map (handle_event s kinds.HandlesModified rg) (numbers_below (handles_in_force k.config s))) (numbers_below k.config.groups))
