-- The unit that a handle may take.
use Rattle.std.proofs.Common.{◌≡◌, ℕ, zero, suc, ◌+◌, ◌*◌, ◌<◌, ◌≤◌, Bool, false, Option, Some, None, refl, sym, ap, arith, subst}
use Rattle.std.specs.Prelude.{IfSome, MatchOption, count_by}
use Rattle.std.proofs.lemmas.Bool.{false_from_ne_true}
use Rattle.std.proofs.lemmas.List.Sums.{sum_by-cons}
use Rattle.fdp_base.specs.declared.entry.Spot.{Spot}
use Rattle.fdp_base.specs.Numbers.{numbers_from}
use Rattle.fdp_book.specs.Book.{BookSeen}
use Rattle.fdp_book.specs.Places.{IsFreeSpot}
use Rattle.fdp_map.specs.Counting.{as_number}
use Rattle.fdp_units.specs.DataUnits.{is_free}
use Rattle.fdp_units.specs.UnitTable.{HasNoFree, IsGroup, IsLowestFree, UnitTable, count_in, state_at}
use Rattle.fdp_units.proofs.Tables.{group-of-place, unit-there}

-- none of the numbers passes
count-none : (test : ℕ → Bool) (first count : ℕ) → ((i : ℕ) → first ≤ i → i < first + count → test i ≡ false) → count_by test (numbers_from first count) ≡ 0
unfolding numbers_from
count-none test first zero none = refl
count-none test first (suc count) none =
    let here : as_number (test first) ≡ 0 = ap as_number (none first (omega arith) (omega arith)) in
    omega (arith, sum_by-cons (λ (i : ℕ). as_number (test i)) first (numbers_from (first + 1) count), here, count-none test (first + 1) count (λ i low high. none i (omega (arith, low)) (omega (arith, high))))

none-free : (t : UnitTable) (rg : ℕ) → IsGroup t rg → HasNoFree t rg → count_in t rg is_free ≡ 0
none-free t rg group none =
    count-none (λ i. is_free (state_at t (rg * t.group_units + i))) 0 t.group_units
    (λ i low high. false_from_ne_true (is_free (state_at t (rg * t.group_units + i))) (λ free.
    none (rg * t.group_units + i) (record { is_unit = unit-there t rg i group (omega (arith, high)); group = group-of-place t rg i (omega (arith, high)); free = free })))

pub free-spot : (b : BookSeen) (t : UnitTable) (rg n : ℕ) (o : Option Spot) → b.pages.units ≡ t → IsGroup t rg → n ≡ count_in t rg is_free → 3 ≤ n → MatchOption o (HasNoFree t rg) (λ spot. IsLowestFree t rg spot.unit) → IfSome o (λ spot. spot.page ≡ 0) → IsFreeSpot b rg o
free-spot b t rg n None is group count three told page = absurd (omega (arith, three, count, none-free t rg group told))
free-spot b t rg n (Some spot) is group count three told page =
    let both : IsLowestFree b.pages.units rg spot.unit × (3 ≤ count_in b.pages.units rg is_free) = subst (λ (u : UnitTable). IsLowestFree u rg spot.unit × (3 ≤ count_in u rg is_free)) (sym is) (told, omega (arith, three, count)) in
    (record { lowest = both.0; three = both.1 }, page)
