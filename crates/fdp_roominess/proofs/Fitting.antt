-- With one group of which nothing is lost, a write within its namespace fits.
use Rattle.std.proofs.Common.{◌≡◌, ◌≢◌, ℕ, zero, suc, ◌+◌, ◌-◌, ◌*◌, ◌<◌, ◌≤◌, Bool, true, false, cond, not, ◌&&◌, Option, Some, None, refl, sym, ◌∙◌, ap, subst, arith, ⊎_elim, eq-eqb}
use Rattle.std.specs.Prelude.{◌==◌, IsFalse, nat_lt, sum_by, if◌then◌else◌}
use Rattle.std.specs.Option.{option_map_or}
use Rattle.std.proofs.lemmas.Bool.{cases_eq}
use Rattle.std.proofs.lemmas.Bool.Decides.{nat_tests}
use Rattle.fdp_base.specs.declared.config.DriveConfig.{DriveConfig}
use Rattle.fdp_base.specs.Geometry.{IsWithin}
use Rattle.fdp_base.specs.Numbers.{count_below, is_among}
use Rattle.fdp_base.specs.Placement.{budget_of, full_budget}
use Rattle.fdp_base.proofs.Sums.{count_from, counted-bound, counting, sum_from, sum_from-cut, sum_from-none, sum_from-step, sum_from-zero}
use Rattle.fdp_history.specs.Listed.{IsListed}
use Rattle.fdp_history.specs.OrderlyState.{IsOrderlyState}
use Rattle.fdp_rules.specs.PlainState.{Namespace, PlainState}
use Rattle.fdp_rules.specs.Room.{budget, handles_in_force, is_over_budget, lies_in, lost_in, namespace_ids, size_of, stored_where}
use Rattle.fdp_roominess.specs.Capacity.{IsWhole}

-- ---- sums

-- a sum is no more than another whose terms are not less, one of them by so much
sum-most : (f g : ℕ → ℕ) (first count : ℕ) → ((i : ℕ) → f i ≤ g i) → sum_from f first count ≤ sum_from g first count
sum-most f g first zero most = omega (arith, sum_from-none f first, sum_from-none g first)
sum-most f g first (suc count) most = let rest = sum-most f g (first + 1) count most in omega (arith, rest, most first, sum_from-step f first count, sum_from-step g first count)

sum-with : (f g : ℕ → ℕ) (first count place more : ℕ) → first ≤ place → place < first + count → ((i : ℕ) → f i ≤ g i) → f place + more ≤ g place → sum_from f first count + more ≤ sum_from g first count
sum-with f g first zero place more low high most one = absurd (omega (arith, low, high))
sum-with f g first (suc count) place more low high most one = ⊎_elim
    (λ (is : first ≡ place).
    let rest = sum-most f g (first + 1) count most in
    let here : f first + more ≤ g first = subst (λ (i : ℕ). f i + more ≤ g i) (sym is) one in
    omega (arith, rest, here, sum_from-step f first count, sum_from-step g first count))
    (λ (ne : first ≢ place).
    let rest = sum-with f g (first + 1) count place more (omega (arith, low, ne)) (omega (arith, high)) most one in
    omega (arith, rest, most first, sum_from-step f first count, sum_from-step g first count))
    (cases_eq first place)

-- ---- the blocks of one namespace

among : (first count n : ℕ) → first ≤ n → n < first + count → is_among first count n ≡ true
among first count n low high = grind (arith, nat_tests)

and-false : (a b : Bool) → b ≡ false → (a && b) ≡ false
and-false true b e = e
and-false false b e = refl

-- those that a write does not replace, and its own
kept-most : (lies : ℕ → Bool) (nsid slba count size : ℕ) → slba + count ≤ size → count_below size (λ lba. lies lba && not (nsid == nsid && is_among slba count lba)) + count ≤ size
kept-most lies nsid slba count size low =
    let test : ℕ → Bool = λ lba. lies lba && not (nsid == nsid && is_among slba count lba) in
    let rest : ℕ = size - (slba + count) in
    let whole : size ≡ slba + (count + rest) = omega (arith, low) in
    let all : count_from test 0 size ≡ count_from test 0 (slba + (count + rest)) = ap (count_from test 0) whole in
    let cut = sum_from-cut (counting test) 0 slba (count + rest) in
    let again = sum_from-cut (counting test) (0 + slba) count rest in
    let before : sum_from (counting test) 0 slba ≤ slba = counted-bound test 0 slba in
    let none : sum_from (counting test) (0 + slba) count ≡ 0 = sum_from-zero (counting test) (0 + slba) count
    (λ i above below. ap (λ (b : Bool). cond b 1 0) (and-false (lies i) (not (nsid == nsid && is_among slba count i))
    (ap (λ (b : Bool). not (b && is_among slba count i)) (eq-eqb nsid nsid refl) ∙ ap not (among slba count i (omega (arith, above)) (omega (arith, below)))))) in
    let behind : sum_from (counting test) (0 + slba + count) rest ≤ rest = counted-bound test (0 + slba + count) rest in
    omega (arith, low, all, cut, again, before, none, behind)

-- ---- the group

module _ (c : DriveConfig) (s : PlainState) (orderly : IsOrderlyState c s) (rg nsid slba count : ℕ) (within : slba + count ≤ size_of s nsid) where
  abbrev kept : ℕ → ℕ → Bool
  kept n lba = not (n == nsid && is_among slba count lba)

  abbrev in_space : ℕ → ℕ
  in_space n = count_below (size_of s n) (λ lba. lies_in rg (s.blocks n lba) && kept n lba)

  each : (n : ℕ) → in_space n ≤ size_of s n
  each n = counted-bound (λ lba. lies_in rg (s.blocks n lba) && kept n lba) 0 (size_of s n)

  -- the blocks of a group that a write does not replace, and its own, are no more than all namespaces have
  stored-fits : stored_where s rg kept + count ≤ sum_by (size_of s) namespace_ids
  unfolding namespace_ids
  stored-fits = by (s.namespaces nsid) refl where
    by : (o : Option Namespace) → s.namespaces nsid ≡ o → sum_from in_space 1 16 + count ≤ sum_from (size_of s) 1 16
    by None none =
        let size : size_of s nsid ≡ 0 = ap (λ (o : Option Namespace). option_map_or (λ (x : Namespace). x.size) o 0) none in
        let most = sum-most in_space (size_of s) 1 16 each in
        omega (arith, most, size, within)
    by (Some n) there =
        let id : IsWithin 1 16 nsid = (orderly.namespaces nsid n there).identifier in
        sum-with in_space (size_of s) 1 16 nsid count (omega (arith, id.0)) (omega (arith, id.1)) each
        (kept-most (λ lba. lies_in rg (s.blocks nsid lba)) nsid slba count (size_of s nsid) within)

  module _ (one : c.groups ≡ 1) (listed : IsListed c s) (whole : IsWhole s) where
    none-lost : lost_in c s rg ≡ 0
    none-lost =
        ap (λ (b : Bool). if b then c.units else count_below c.units (λ i. s.is_lost (rg * c.units + i))) (whole.worn rg)
        ∙ sum_from-zero (counting (λ i. s.is_lost (rg * c.units + i))) 0 c.units (λ i low high. ap (λ (b : Bool). cond b 1 0) (whole.lost (rg * c.units + i)))

    not-more : (m n : ℕ) → n ≤ m → nat_lt m n ≡ false
    not-more m n low = grind (arith, nat_tests)

    pub never-over : IsFalse (is_over_budget c s rg nsid slba count)
    never-over =
        let most : budget c s rg ≡ budget_of c (handles_in_force c s) 0 = ap (budget_of c (handles_in_force c s)) none-lost in
        let full : full_budget c (handles_in_force c s) ≡ budget_of c (handles_in_force c s) 0 = ap (λ (n : ℕ). n * budget_of c (handles_in_force c s) 0) one ∙ omega arith in
        let room = listed.room in
        not-more (budget c s rg) (stored_where s rg kept + count) (omega (arith, stored-fits, room, full, most))
