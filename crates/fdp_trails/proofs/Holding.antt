-- Units that are each held by another of so many handles.
use Rattle.std.proofs.Common.{◌≡◌, ℕ, zero, suc, ◌+◌, ◌*◌, ◌<◌, ◌≤◌, Bool, true, false, cond, Option, Some, None, refl, sym, ◌∙◌, ap, arith}
use Rattle.std.specs.Prelude.{◌==◌, IsTrue}
use Rattle.std.specs.Option.{option_map_or}
use Rattle.std.proofs.lemmas.Bool.{eq-eqb, eqb-true}
use Rattle.fdp_base.proofs.Sums.{counting, sum_from, sum_from-bound, sum_from-none, sum_from-same, sum_from-step, sum_from-zero}
use Rattle.fdp_owners.proofs.Rows.{as_number}
use Rattle.fdp_units.specs.declared.state.UnitState.{UnitState}
use Rattle.fdp_units.specs.UnitTable.{IsGroup, IsUnit, UnitTable, count_in, group_in, state_at}
use Rattle.fdp_units.proofs.Tables.{group-of-place, unit-there}
use Rattle.fdp_trails.proofs.Hits.{one-most, sum_from-both, sum_from-most, sum_from-term}

-- two sums change places
sums-swapped : (f : ℕ → ℕ → ℕ) (first number low count : ℕ) → sum_from (λ i. sum_from (f i) low count) first number ≡ sum_from (λ j. sum_from (λ i. f i j) first number) low count
sums-swapped f first zero low count = sum_from-none (λ i. sum_from (f i) low count) first ∙ sym (sum_from-zero (λ j. sum_from (λ i. f i j) first zero) low count (λ j from to. sum_from-none (λ i. f i j) first))
sums-swapped f first (suc number) low count =
    let cut : sum_from (λ j. sum_from (λ i. f i j) first (suc number)) low count ≡ sum_from (λ j. f first j + sum_from (λ i. f i j) (first + 1) number) low count =
    sum_from-same (λ j. sum_from (λ i. f i j) first (suc number)) (λ j. f first j + sum_from (λ i. f i j) (first + 1) number) low count (λ j from to. sum_from-step (λ i. f i j) first number) in
    omega (
      arith,
      cut,
      sum_from-step (λ i. sum_from (f i) low count) first number,
      sums-swapped f (first + 1) number low count,
      sum_from-both (f first) (λ j. sum_from (λ i. f i j) (first + 1) number) low count,
    )

-- what a handle holds is this unit
abbrev is_held : Option ℕ → ℕ → Bool
is_held o unit = option_map_or (λ (n : ℕ). n == unit) o false

held-one : (o : Option ℕ) (base number : ℕ) → sum_from (counting (λ i. is_held o (base + i))) 0 number ≤ 1
held-one None base number = omega (arith, sum_from-zero (λ i. 0) 0 number (λ i low high. refl))
held-one (Some n) base number = one-most (λ i. n == base + i) 0 number (λ i j is also. same i j (eqb-true n (base + i) is) (eqb-true n (base + j) also)) where
  same : (i j : ℕ) → n ≡ base + i → n ≡ base + j → i ≡ j
  same i j is also = omega (arith, is, also)

pub held-few : (t : UnitTable) (rg handles : ℕ) (test : UnitState → Bool) (holds : ℕ → Option ℕ) → IsGroup t rg → ((unit : ℕ) → IsUnit t unit → group_in t unit ≡ rg → IsTrue (test (state_at t unit)) → (ruh : ℕ) × (ruh < handles) × (holds ruh ≡ Some unit)) → count_in t rg test ≤ handles
held-few t rg handles test holds group held =
    let each : count_in t rg test ≤ sum_from (λ i. sum_from (λ ruh. cond (is_held (holds ruh) (rg * t.group_units + i)) 1 0) 0 handles) 0 t.group_units =
    sum_from-most (counting (λ i. test (state_at t (rg * t.group_units + i)))) (λ i. sum_from (λ ruh. cond (is_held (holds ruh) (rg * t.group_units + i)) 1 0) 0 handles) 0 t.group_units
    (λ i low high. unit i (omega (arith, high)) (test (state_at t (rg * t.group_units + i))) refl) in
    let swapped = sums-swapped (λ i ruh. cond (is_held (holds ruh) (rg * t.group_units + i)) 1 0) 0 t.group_units 0 handles in
    let few : sum_from (λ ruh. sum_from (λ i. cond (is_held (holds ruh) (rg * t.group_units + i)) 1 0) 0 t.group_units) 0 handles ≤ handles * 1 =
    sum_from-bound (λ ruh. sum_from (λ i. cond (is_held (holds ruh) (rg * t.group_units + i)) 1 0) 0 t.group_units) 1 0 handles (λ ruh. held-one (holds ruh) (rg * t.group_units) t.group_units) in
    omega (arith, each, swapped, few) where
      unit : (i : ℕ) → i < t.group_units → (b : Bool) → test (state_at t (rg * t.group_units + i)) ≡ b → cond b 1 0 ≤ sum_from (λ ruh. cond (is_held (holds ruh) (rg * t.group_units + i)) 1 0) 0 handles
      unit i low false e = omega arith
      unit i low true e =
          let by = held (rg * t.group_units + i) (unit-there t rg i group low) (group-of-place t rg i low) e in
          let own : as_number (is_held (holds by.0) (rg * t.group_units + i)) ≡ 1 =
          ap (λ (o : Option ℕ). as_number (is_held o (rg * t.group_units + i))) by.2 ∙ ap as_number (eq-eqb (rg * t.group_units + i) (rg * t.group_units + i) refl) in
          omega (arith, own, sum_from-term (λ ruh. cond (is_held (holds ruh) (rg * t.group_units + i)) 1 0) 0 handles by.0 (omega arith) (omega (arith, by.1)))
