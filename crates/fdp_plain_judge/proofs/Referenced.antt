-- Which units the table of references names.
use Rattle.std.proofs.Common.{◌≡◌, ℕ, ◌+◌, ◌*◌, ◌/◌, ◌%◌, ◌<◌, Bool, true, false, cond, ltb, Option, None, Some, refl, sym, ◌∙◌, ap, arith, slice_get}
use Rattle.std.specs.Option.{option_map_or}
use Rattle.std.proofs.Math.Nat.{div-add-mod, mod-lt}
use Rattle.std.proofs.lemmas.Bool.{lt-ltb}
use Rattle.std.proofs.lemmas.Option.{none-some}
use Rattle.fdp_rules.specs.Effect.{no_reference}
use Rattle.fdp_rules.specs.PlainState.{Reference}
use Rattle.fdp_rules.specs.Step.{IsUnreferenced}
use Rattle.fdp_tables.specs.declared.state.Kept.{Kept}
use Rattle.fdp_tables.specs.declared.state.KeptReference.{KeptReference}
use Rattle.fdp_plain_judge.specs.Judging.{EachIn, IsFreeOf}
use Rattle.fdp_tables.specs.State.{plain_of, reference_at, reference_of}

-- a unit that is looked up stands in a row
picked : (none : Reference) (b : Bool) (o : Option KeptReference) (unit : ℕ) → none.unit ≡ None → (cond b (option_map_or reference_of o none) none).unit ≡ Some unit → (x : KeptReference) × (o ≡ Some x) × (x.unit ≡ Some unit)
picked none true (Some x) unit empty e = (x, refl, e)
picked none true None unit empty e = absurd (none-some unit (sym empty ∙ e))
picked none false o unit empty e = absurd (none-some unit (sym empty ∙ e))

pub none_names : (k : Kept) (unit : ℕ) → EachIn (IsFreeOf unit) k.references.items → IsUnreferenced (plain_of k) unit
none_names k unit none rg ruh e =
    let found = picked (no_reference k.config) (ltb ruh 16) (slice_get k.references.items (16 * rg + ruh)) unit refl e in
    none (16 * rg + ruh) found.0 found.1 found.2

-- each row is that of a handle
pub each_free : (k : Kept) (unit : ℕ) → IsUnreferenced (plain_of k) unit → EachIn (IsFreeOf unit) k.references.items
each_free k unit un i x e named =
    let place : 16 * (i / 16) + i % 16 ≡ i = div-add-mod i 16 in
    let row : slice_get k.references.items (16 * (i / 16) + i % 16) ≡ Some x = ap (λ (n : ℕ). slice_get k.references.items n) place ∙ e in
    let lower : i % 16 < 16 = mod-lt i (omega arith) in
    let low : ltb (i % 16) 16 ≡ true = lt-ltb (i % 16) 16 lower in
    let at : reference_at k (i / 16) (i % 16) ≡ reference_of x =
    ap (λ (b : Bool). cond b (option_map_or reference_of (slice_get k.references.items (16 * (i / 16) + i % 16)) (no_reference k.config)) (no_reference k.config)) low
    ∙ ap (λ (o : Option KeptReference). option_map_or reference_of o (no_reference k.config)) row in
    un (i / 16) (i % 16) (ap (λ (y : Reference). y.unit) at ∙ named)
