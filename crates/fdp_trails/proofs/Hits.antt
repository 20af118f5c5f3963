-- Pages of a group and the pointers that lead there, counted both ways.
use Rattle.std.proofs.Common.{◌≡◌, ◌≢◌, ℕ, zero, suc, ◌+◌, ◌*◌, ◌<◌, ◌≤◌, Bool, true, false, cond, Option, Some, None, refl, sym, ◌∙◌, ap, arith, ⊎_elim}
use Rattle.std.specs.Prelude.{◌==◌, ◌&&◌}
use Rattle.std.specs.Option.{option_map_or}
use Rattle.std.proofs.lemmas.Bool.{cases_eq, eqb-true}
use Rattle.fdp_base.specs.declared.entry.Spot.{Spot}
use Rattle.fdp_base.proofs.Sums.{count_from, counting, counting-bound, sum_from, sum_from-none, sum_from-same, sum_from-step, sum_from-zero}
use Rattle.fdp_rules.specs.Sites.{is_spot}
use Rattle.fdp_pointers.specs.Facts.{Page}

-- ---- sums

-- a sum whose terms are at most those of another
pub sum_from-most : (f g : ℕ → ℕ) (first number : ℕ) → ((i : ℕ) → first ≤ i → i < first + number → f i ≤ g i) → sum_from f first number ≤ sum_from g first number
sum_from-most f g first zero h = omega (arith, sum_from-none f first)
sum_from-most f g first (suc number) h =
    omega (
      arith,
      h first (omega arith) (omega arith),
      sum_from-most f g (first + 1) number (λ i low high. h i (omega (arith, low)) (omega (arith, high))),
      sum_from-step f first number,
      sum_from-step g first number,
    )

-- a term of a sum
pub sum_from-term : (f : ℕ → ℕ) (first number i : ℕ) → first ≤ i → i < first + number → f i ≤ sum_from f first number
sum_from-term f first zero i low high = absurd (omega (arith, low, high))
sum_from-term f first (suc number) i low high =
    ⊎_elim
    (λ (is : i ≡ first). omega (arith, ap f is, sum_from-step f first number))
    (λ (ne : i ≢ first). omega (arith, sum_from-term f (first + 1) number i (omega (arith, low, ne)) (omega (arith, high)), sum_from-step f first number))
    (cases_eq i first)

pub sum_from-both : (f g : ℕ → ℕ) (first number : ℕ) → sum_from (λ i. f i + g i) first number ≡ sum_from f first number + sum_from g first number
sum_from-both f g first zero = omega (arith, sum_from-none (λ i. f i + g i) first, sum_from-none f first, sum_from-none g first)
sum_from-both f g first (suc number) = omega (arith, sum_from-both f g (first + 1) number, sum_from-step (λ i. f i + g i) first number, sum_from-step f first number, sum_from-step g first number)

-- of numbers no two of which pass a test at most one does
pub one-most : (test : ℕ → Bool) (first number : ℕ) → ((i j : ℕ) → test i ≡ true → test j ≡ true → i ≡ j) → count_from test first number ≤ 1
one-most test first zero alone = omega (arith, sum_from-none (counting test) first)
one-most test first (suc number) alone = cases (one-most test (first + 1) number alone) (test first) refl where
  cases : count_from test (first + 1) number ≤ 1 → (b : Bool) → test first ≡ b → count_from test first (suc number) ≤ 1
  cases others true is =
      let rest : sum_from (counting test) (first + 1) number ≡ 0 = sum_from-zero (counting test) (first + 1) number (λ i low high. ap (λ (b : Bool). cond b 1 0) (never i low)) in
      omega (arith, rest, counting-bound test first, sum_from-step (counting test) first number) where
        never : (i : ℕ) → first + 1 ≤ i → test i ≡ false
        never i low = at (test i) refl where
          at : (b : Bool) → test i ≡ b → test i ≡ false
          at true passes = let same : first ≡ i = alone first i is passes in absurd (omega (arith, same, low))
          at false fails = fails
  cases others false fails =
      let here : counting test first ≡ 0 = ap (λ (b : Bool). cond b 1 0) fails in
      omega (arith, here, others, sum_from-step (counting test) first number)

-- ---- the pages of a group

-- a page of a group of so many units
abbrev pub page_of_group : ℕ → ℕ → ℕ → ℕ → Spot
page_of_group units rg i k = record { unit = rg * units + i; page = k }

-- a sum over all pages of a group
abbrev pub total : ℕ → ℕ → (ℕ → ℕ → ℕ) → ℕ
total units pages f = sum_from (λ i. sum_from (f i) 0 pages) 0 units

pub total-both : (units pages : ℕ) (f g : ℕ → ℕ → ℕ) → total units pages (λ i k. f i k + g i k) ≡ total units pages f + total units pages g
total-both units pages f g =
    sum_from-same (λ i. sum_from (λ k. f i k + g i k) 0 pages) (λ i. sum_from (f i) 0 pages + sum_from (g i) 0 pages) 0 units (λ i low high. sum_from-both (f i) (g i) 0 pages)
    ∙ sum_from-both (λ i. sum_from (f i) 0 pages) (λ i. sum_from (g i) 0 pages) 0 units

pub total-most : (units pages : ℕ) (f g : ℕ → ℕ → ℕ) → ((i k : ℕ) → i < units → k < pages → f i k ≤ g i k) → total units pages f ≤ total units pages g
total-most units pages f g h =
    sum_from-most (λ i. sum_from (f i) 0 pages) (λ i. sum_from (g i) 0 pages) 0 units
    (λ i low high. sum_from-most (f i) (g i) 0 pages (λ k from below. h i k (omega (arith, high)) (omega (arith, below))))

pub total-zero : (units pages : ℕ) (f : ℕ → ℕ → ℕ) → ((i k : ℕ) → i < units → k < pages → f i k ≡ 0) → total units pages f ≡ 0
total-zero units pages f h =
    sum_from-zero (λ i. sum_from (f i) 0 pages) 0 units (λ i low high. sum_from-zero (f i) 0 pages (λ k from below. h i k (omega (arith, high)) (omega (arith, below))))

-- sums over pages and over something else change places
pub total-swapped : (units pages : ℕ) (f : ℕ → ℕ → ℕ → ℕ) (first number : ℕ) → total units pages (λ i k. sum_from (λ n. f n i k) first number) ≡ sum_from (λ n. total units pages (f n)) first number
total-swapped units pages f first zero =
    total-zero units pages (λ i k. sum_from (λ n. f n i k) first zero) (λ i k low below. sum_from-none (λ n. f n i k) first) ∙ sym (sum_from-none (λ n. total units pages (f n)) first)
total-swapped units pages f first (suc number) =
    let cut : total units pages (λ i k. sum_from (λ n. f n i k) first (suc number)) ≡ total units pages (λ i k. f first i k + sum_from (λ n. f n i k) (first + 1) number) =
    sum_from-same (λ i. sum_from (λ k. sum_from (λ n. f n i k) first (suc number)) 0 pages) (λ i. sum_from (λ k. f first i k + sum_from (λ n. f n i k) (first + 1) number) 0 pages) 0 units
    (λ i low high. sum_from-same (λ k. sum_from (λ n. f n i k) first (suc number)) (λ k. f first i k + sum_from (λ n. f n i k) (first + 1) number) 0 pages (λ k from below. sum_from-step (λ n. f n i k) first number)) in
    omega (
      arith,
      cut,
      total-both units pages (f first) (λ i k. sum_from (λ n. f n i k) (first + 1) number),
      total-swapped units pages f (first + 1) number,
      sum_from-step (λ n. total units pages (f n)) first number,
    )

-- ---- hits

-- a pointer that leads here leads to a page
abbrev pub leads : Option Page → Spot → Bool
leads o spot = option_map_or (λ (y : Page). is_spot y.spot spot) o false

abbrev pub hit : Option Page → Spot → ℕ
hit o spot = cond (leads o spot) 1 0

pub hits-one : (units pages rg : ℕ) (o : Option Page) → total units pages (λ i k. hit o (page_of_group units rg i k)) ≤ 1
hits-one units pages rg None = omega (arith, total-zero units pages (λ i k. 0) (λ i k low below. refl))
hits-one units pages rg (Some y) =
    let inner : sum_from (λ i. sum_from (λ k. cond ((y.spot.unit == rg * units + i) && (y.spot.page == k)) 1 0) 0 pages) 0 units ≤ sum_from (counting (λ i. y.spot.unit == rg * units + i)) 0 units =
    sum_from-most (λ i. sum_from (λ k. cond ((y.spot.unit == rg * units + i) && (y.spot.page == k)) 1 0) 0 pages) (counting (λ i. y.spot.unit == rg * units + i)) 0 units (λ i low high. one-page (y.spot.unit == rg * units + i)) in
    let outer : sum_from (counting (λ i. y.spot.unit == rg * units + i)) 0 units ≤ 1 = one-most (λ i. y.spot.unit == rg * units + i) 0 units (λ i j is also. one-unit i j (eqb-true y.spot.unit (rg * units + i) is) (eqb-true y.spot.unit (rg * units + j) also)) in
    omega (arith, inner, outer) where
      one-unit : (i j : ℕ) → y.spot.unit ≡ rg * units + i → y.spot.unit ≡ rg * units + j → i ≡ j
      one-unit i j is also = omega (arith, is, also)

      one-page : (b : Bool) → sum_from (λ k. cond (b && (y.spot.page == k)) 1 0) 0 pages ≤ cond b 1 0
      one-page true = one-most (λ k. y.spot.page == k) 0 pages (λ i j is also. sym (eqb-true y.spot.page i is) ∙ eqb-true y.spot.page j also)
      one-page false = omega (arith, sum_from-zero (λ k. 0) 0 pages (λ k low high. refl))
