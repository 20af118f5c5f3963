-- How large namespaces are, and their fields.
use Rattle.std.proofs.Common.{◌≡◌, ℕ, zero, suc, ◌+◌, ◌-◌, ◌*◌, ◌≤◌, ◌<◌, arith, ⊎_elim, subst}
use Rattle.std.specs.Prelude.{sum_by}
use Rattle.std.proofs.lemmas.Bool.{cases_eq}
use Rattle.std.proofs.lemmas.List.Sums.{sum_by-cons}
use Rattle.std.proofs.lemmas.Nat.{mul-le}
use Rattle.fdp_base.specs.declared.config.DriveConfig.{DriveConfig}
use Rattle.fdp_base.specs.Config.{IsValidConfig}
use Rattle.fdp_base.specs.Geometry.{all_units}
use Rattle.fdp_base.specs.Numbers.{numbers_from}
use Rattle.fdp_base.specs.Placement.{budget_of, full_budget, geometry_of}
use Rattle.fdp_history.specs.Listed.{IsListed}
use Rattle.fdp_rules.specs.PlainState.{PlainState}
use Rattle.fdp_rules.specs.Room.{handles_in_force, namespace_ids, size_of}

-- one of the numbers that are summed
one-of : (f : ℕ → ℕ) (first count n : ℕ) → first ≤ n → n < first + count → f n ≤ sum_by f (numbers_from first count)
unfolding numbers_from
one-of f first zero n low high = absurd (omega (arith, low, high))
one-of f first (suc count) n low high =
    let split = sum_by-cons f first (numbers_from (first + 1) count) in
    ⊎_elim
    (λ (e : n ≡ first). let here : f n ≤ f first = subst (λ (k : ℕ). f n ≤ f k) e (omega arith) in omega (arith, here, split))
    (λ ne. let rest = one-of f (first + 1) count n (omega (arith, low, ne)) (omega (arith, high)) in omega (arith, rest, split))
    (cases_eq n first)

-- the budgets of all groups come to no more than the pages
budgets-few : (c : DriveConfig) → IsValidConfig c → (handles : ℕ) → full_budget c handles ≤ 262144
budgets-few c valid handles =
    let pages = mul-le c.unit_pages (c.units - 0 - 2 * handles - 3) c.unit_pages c.units (omega arith) (omega arith) in
    let one : budget_of c handles 0 ≤ c.unit_pages * c.units = omega (arith, pages) in
    let all = mul-le c.groups (budget_of c handles 0) c.groups (c.unit_pages * c.units) (omega arith) one in
    let units : c.groups * c.units ≤ all_units (geometry_of c) = omega arith in
    let whole = mul-le c.unit_pages (c.groups * c.units) c.unit_pages (all_units (geometry_of c)) (omega arith) units in
    let turned : c.groups * (c.unit_pages * c.units) ≡ c.unit_pages * (c.groups * c.units) = omega arith in
    omega (arith, all, turned, whole, valid.ranges.pages)

-- a namespace has no more blocks than a drive has pages
pub size-few : (c : DriveConfig) (s : PlainState) → IsValidConfig c → IsListed c s → (nsid : ℕ) → 1 ≤ nsid → nsid ≤ 16 → size_of s nsid ≤ 262144
unfolding namespace_ids
size-few c s valid listed nsid low high =
    omega (arith, one-of (size_of s) 1 16 nsid low (omega (arith, high)), listed.room, budgets-few c valid (handles_in_force c s))
