use Rattle.std.proofs.Common.{◌∙◌, List, arith, refl, subst, sym}
use mathlib.Core.Bool.{true≢false}
use Rattle.fdp_tables.specs.declared.state.KeptReference.{KeptReference}
use Rattle.fdp_plain_judge.specs.Judging.{EachIn, IsFreeOf}
use Rattle.fdp_rules.specs.Step.{IsUnreferenced}
use Rattle.fdp_tables.specs.State.{plain_of}
use Rattle.fdp_plain_judge.proofs.Referenced.{each_free, none_names}
use Rattle.fdp_plain_judge.proofs.Scanning.{at_place, each_at_first, each_at_last, each_next}
use Rattle.fdp_plain_judge.proofs.pages.is_unreferenced.Goals as goal

pub loop-reference-init : goal.loop-reference-init
loop-reference-init c = each_at_first (IsFreeOf c.args.unit) c.references-reference-items.result.now

pub returns-then-not-is_free_of : goal.returns-then-not-is_free_of
returns-then-not-is_free_of c =
    let P : List KeptReference → Type 0 = EachIn (IsFreeOf c.args.unit) in
    let each : IsUnreferenced (plain_of c.args.kept.now) c.args.unit → P c.references-reference-items.result.now =
    λ un. subst P (sym c.references-reference-items.ensures) (each_free c.args.kept.now c.args.unit un) in (
      λ e. absurd (true≢false (sym e)),
      λ un. absurd (true≢false (sym (c.is_free_of.ensures.1 (at_place (IsFreeOf c.args.unit) c.references-reference-items.result.now c.loop-reference.reference-index _ (omega arith) (each un))) ∙ c.if-not-is_free_of.true)),
    )

pub loop-reference-preserved : goal.loop-reference-preserved
loop-reference-preserved c =
    each_next (IsFreeOf c.args.unit) c.references-reference-items.result.now c.loop-reference.reference-index _ (omega arith) (c.is_free_of.ensures.0 c.if-not-is_free_of.false) c.loop-reference.invariant

pub returns : goal.returns
returns c =
    let P : List KeptReference → Type 0 = EachIn (IsFreeOf c.args.unit) in
    let each : P c.args.kept.now.references.items =
    subst P c.references-reference-items.ensures (each_at_last (IsFreeOf c.args.unit) c.references-reference-items.result.now c.loop-reference.reference-index (omega arith) c.loop-reference.invariant) in
    (λ _. none_names c.args.kept.now c.args.unit each, λ _. refl)
