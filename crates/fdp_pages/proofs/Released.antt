-- Pages that lose their owners one after another.
use Rattle.std.proofs.Common.{◌≡◌, ◌≢◌, ℕ, zero, suc, ◌+◌, ◌<◌, ◌≤◌, Bool, true, false, List, Option, Some, None, refl, ap, sym, ◌∙◌, arith, take, length, get_or}
use Rattle.std.specs.Prelude.{◌||◌, slice_get, if◌then◌else◌}
use Rattle.std.specs.List.{list_any}
use Rattle.std.proofs.lemmas.List.Folds.{list_any_more}
use Rattle.std.proofs.lemmas.Option.{slice_get-get_or}
use Rattle.fdp_base.specs.declared.entry.Spot.{Spot}
use Rattle.fdp_owners.specs.declared.owner.Owner.{Owner}
use Rattle.fdp_owners.specs.OwnerTable.{with_owner}
use Rattle.fdp_owners.proofs.Tables.{is_spot-other}
use Rattle.fdp_pages.specs.Steps.{without}
use Rattle.fdp_rules.specs.Sites.{is_spot}

-- a page more loses its owner
pub without-more : (owners : Spot → Option Owner) (spots : List Spot) (i : ℕ) (d : Spot) → i < length spots → without owners (take (i + 1) spots) ≡ with_owner (without owners (take i spots)) (get_or spots i d) None
without-more owners spots i d low = λ k at. pointwise at k where
  either : (a b : Bool) (x : Option Owner) → (if a || b then None else x) ≡ (if b then None else (if a then None else x))
  either true true x = refl
  either true false x = refl
  either false true x = refl
  either false false x = refl

  pointwise : (at : Spot) → without owners (take (i + 1) spots) at ≡ with_owner (without owners (take i spots)) (get_or spots i d) None at
  pointwise at = ap (λ (b : Bool). if b then None else owners at) (list_any_more (is_spot at) spots i d low) ∙ either (list_any (is_spot at) (take i spots)) (is_spot at (get_or spots i d)) (owners at)

-- a page that comes later still has its owner
pub still-owned : (owners : Spot → Option Owner) (spots : List Spot) (i : ℕ) (d : Spot) → i < length spots → ((a b : ℕ) (spot : Spot) → slice_get spots a ≡ Some spot → slice_get spots b ≡ Some spot → a ≡ b) → without owners (take i spots) (get_or spots i d) ≡ owners (get_or spots i d)
still-owned owners spots i d low differ = ap (λ (b : Bool). if b then None else owners (get_or spots i d)) (before i (omega arith)) where
  apart : (k : ℕ) → k < i → get_or spots i d ≢ get_or spots k d
  apart k less same =
      let here : slice_get spots i ≡ Some (get_or spots i d) = slice_get-get_or spots i d low in
      let there : slice_get spots k ≡ Some (get_or spots i d) = slice_get-get_or spots k d (omega (arith, less, low)) ∙ ap (λ (s : Spot). Some s) (sym same) in
      absurd (omega (arith, less, differ i k (get_or spots i d) here there))

  none : (a b : Bool) → a ≡ false → b ≡ false → (a || b) ≡ false
  none a b e f = ap (λ (x : Bool). x || b) e ∙ f

  before : (k : ℕ) → k ≤ i → list_any (is_spot (get_or spots i d)) (take k spots) ≡ false
  before zero less = refl
  before (suc k) less =
      ap (λ (n : ℕ). list_any (is_spot (get_or spots i d)) (take n spots)) (sum k)
      ∙ list_any_more (is_spot (get_or spots i d)) spots k d (omega (arith, less, low))
      ∙ none (list_any (is_spot (get_or spots i d)) (take k spots)) (is_spot (get_or spots i d) (get_or spots k d)) (before k (omega (arith, less))) (is_spot-other (get_or spots i d) (get_or spots k d) (apart k (omega (arith, less)))) where
        sum : (k : ℕ) → suc k ≡ k + 1
        sum k = omega arith
