-- New pages of copies that lie in order in one unit.
use Rattle.std.proofs.Common.{◌≡◌, ℕ, zero, suc, ◌+◌, ◌<◌, ◌≤◌, List, [], ◌∷◌, ◌++◌, length, get_or, refl, sym, ◌∙◌, ap, arith}
use Rattle.std.specs.Prelude.{Contains}
use Rattle.fdp_base.specs.declared.entry.Copied.{Copied}
use Rattle.fdp_pages.specs.Joined.{LieInOrder}

unit-at : (unit first : ℕ) (xs : List Copied) (a : Copied) (k : ℕ) → LieInOrder unit first xs → k < length xs → get_or xs k a ≡ a → a.to.unit ≡ unit
unit-at unit first [] a k h low e = absurd (omega (arith, low))
unit-at unit first (x ∷ xs) a zero h low e = ap (λ (y : Copied). y.to.unit) (sym e) ∙ h.0
unit-at unit first (x ∷ xs) a (suc k) h low e = let below : k < length xs = omega (arith, low) in unit-at unit (x.to.page + 1) xs a k h.2 below e

-- all lie in that unit
pub in-order-unit : (unit first : ℕ) (xs : List Copied) (a : Copied) → LieInOrder unit first xs → Contains xs a → a.to.unit ≡ unit
in-order-unit unit first xs a h is = unit-at unit first xs a is.0 h is.1 is.2

-- one more, behind all of them
pub in-order-push : (unit first : ℕ) (xs : List Copied) (y : Copied) → LieInOrder unit first xs → y.to.unit ≡ unit → first ≤ y.to.page → ((a : Copied) → Contains xs a → a.to.page < y.to.page) → LieInOrder unit first (xs ++ y ∷ [])
in-order-push unit first [] y h same low behind = (same, low, tt)
in-order-push unit first (x ∷ xs) y h same low behind =
    let here : x.to.page < y.to.page = behind x (0, omega arith, refl) in
    (h.0, h.1, in-order-push unit (x.to.page + 1) xs y h.2 same (omega (arith, here)) (λ a is. behind a (suc is.0, omega (arith, is.1), is.2)))
