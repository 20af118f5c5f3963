-- What the counts of a group come to.
use Rattle.std.proofs.Common.{◌≡◌, ℕ, zero, suc, ◌+◌, ◌*◌, ◌<◌, ◌≤◌, Bool, true, false, refl, ap, ◌∙◌, arith, cond, ⊎_elim}
use Rattle.std.specs.Prelude.{sum_by}
use Rattle.std.proofs.lemmas.Bool.{cases_lt}
use Rattle.std.proofs.lemmas.List.Sums.{sum_by-cons}
use Rattle.fdp_base.specs.Numbers.{numbers_from}
use Rattle.fdp_units.specs.declared.state.UnitState.{UnitState}
use Rattle.fdp_units.specs.declared.state.UnitState.TheVariants.{Free, Referenced, Target, Closed, Retired, Aside}
use Rattle.fdp_units.specs.DataUnits.{is_closed, is_free, is_lost, is_referenced, is_target}
use Rattle.fdp_units.specs.UnitTable.{HasNoVictim, IsGroup, UnitTable, count_in, live_at, state_at, unit_at}
use Rattle.fdp_units.proofs.Tables.{group-of-place, unit-there}

-- a test as a number
abbrev counts : (UnitState → Bool) → (ℕ → UnitState) → ℕ → ℕ
counts test state i = cond (test (state i)) 1 0

one-state : (s : UnitState) → cond (is_free s) 1 0 + cond (is_referenced s) 1 0 + cond (is_target s) 1 0 + cond (is_closed s) 1 0 + cond (is_lost s) 1 0 ≡ 1
one-state Free = refl
one-state Referenced = refl
one-state Target = refl
one-state Closed = refl
one-state Retired = refl
one-state Aside = refl

counted-from : (state : ℕ → UnitState) (first count : ℕ)
    → sum_by (counts is_free state) (numbers_from first count) + sum_by (counts is_referenced state) (numbers_from first count) + sum_by (counts is_target state) (numbers_from first count) + sum_by (counts is_closed state) (numbers_from first count) + sum_by (counts is_lost state) (numbers_from first count) ≡ count
unfolding numbers_from
counted-from state first zero = refl
counted-from state first (suc count) = omega (
  arith,
  one-state (state first),
  counted-from state (first + 1) count,
  sum_by-cons (counts is_free state) first (numbers_from (first + 1) count),
  sum_by-cons (counts is_referenced state) first (numbers_from (first + 1) count),
  sum_by-cons (counts is_target state) first (numbers_from (first + 1) count),
  sum_by-cons (counts is_closed state) first (numbers_from (first + 1) count),
  sum_by-cons (counts is_lost state) first (numbers_from (first + 1) count),
)

pub counted-once : (t : UnitTable) (rg : ℕ) → count_in t rg is_free + count_in t rg is_referenced + count_in t rg is_target + count_in t rg is_closed + count_in t rg is_lost ≡ t.group_units
counted-once t rg = counted-from (λ i. state_at t (rg * t.group_units + i)) 0 t.group_units

-- so many times a count is at most a sum whose terms are that much where the test passes
counted-most : (most : ℕ) (test : ℕ → Bool) (f : ℕ → ℕ) (first count : ℕ) → ((i : ℕ) → first ≤ i → i < first + count → test i ≡ true → most ≤ f i) → most * sum_by (λ i. cond (test i) 1 0) (numbers_from first count) ≤ sum_by f (numbers_from first count)
unfolding numbers_from
counted-most most test f first zero h = omega arith
counted-most most test f first (suc count) h =
    let rest : most * sum_by (λ i. cond (test i) 1 0) (numbers_from (first + 1) count) ≤ sum_by f (numbers_from (first + 1) count) = counted-most most test f (first + 1) count (λ i low high. h i (omega (arith, low)) (omega (arith, high))) in
    let here : most * cond (test first) 1 0 ≤ f first = (elim (test first) as (λ b. test first ≡ b → most * cond b 1 0 ≤ f first) [
      | true ↦ λ passes. let low : most ≤ f first = h first (omega arith) (omega arith) passes in omega (arith, low)
      | false ↦ λ fails. omega arith
    ]) refl in
    let cut : sum_by (λ i. cond (test i) 1 0) (numbers_from first (suc count)) ≡ cond (test first) 1 0 + sum_by (λ i. cond (test i) 1 0) (numbers_from (first + 1) count) = sum_by-cons (λ i. cond (test i) 1 0) first (numbers_from (first + 1) count) in
    let product : most * sum_by (λ i. cond (test i) 1 0) (numbers_from first (suc count)) ≡ most * cond (test first) 1 0 + most * sum_by (λ i. cond (test i) 1 0) (numbers_from (first + 1) count) =
    ap (λ (n : ℕ). most * n) cut ∙ distributes most (cond (test first) 1 0) (sum_by (λ i. cond (test i) 1 0) (numbers_from (first + 1) count)) in
    omega (arith, product, here, rest, sum_by-cons f first (numbers_from (first + 1) count)) where
      distributes : (a b c : ℕ) → a * (b + c) ≡ a * b + a * c
      distributes a b c = omega arith

pub full-live : (t : UnitTable) (rg : ℕ) → IsGroup t rg → HasNoVictim t rg → t.unit_pages * count_in t rg is_closed ≤ live_at t rg
full-live t rg there none =
    counted-most t.unit_pages (λ i. is_closed (state_at t (rg * t.group_units + i))) (λ i. (unit_at t (rg * t.group_units + i)).live) 0 t.group_units
    (λ i low high closed.
    let place : i < t.group_units = omega (arith, high) in
    ⊎_elim
    (λ (gains : (unit_at t (rg * t.group_units + i)).live < t.unit_pages). absurd (none (rg * t.group_units + i) (record { is_unit = unit-there t rg i there place; group = group-of-place t rg i place; closed = closed; gains = gains })))
    (λ (full : t.unit_pages ≤ (unit_at t (rg * t.group_units + i)).live). full)
    (cases_lt (unit_at t (rg * t.group_units + i)).live t.unit_pages))
