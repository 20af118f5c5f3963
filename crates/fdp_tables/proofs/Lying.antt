-- Blocks that lie in a group, counted by their places and by their addresses.
use Rattle.std.proofs.Common.{◌≡◌, ◌⊎◌, ℕ, zero, suc, ◌+◌, ◌-◌, ◌<◌, ◌≤◌, Bool, true, false, List, [], ◌∷◌, Option, None, Some, cond, get_or, length, min, not, set, refl, sym, ap, ◌∙◌, arith, inl, inr, ⊎_elim}
use Rattle.std.specs.Prelude.{◌&&◌, count_by, option_map, replicate}
use Rattle.std.proofs.lemmas.Bool.{cases_lt}
use Rattle.std.proofs.lemmas.Bool.Decides.{nat_tests}
use Rattle.std.specs.Option.{option_flatten}
use Rattle.std.proofs.lemmas.List.{get_or-replicate, get_or_default}
use Rattle.std.proofs.lemmas.Option.{slice_get-get_or, slice_get_read}
use Rattle.std.proofs.lemmas.List.Sums.{sum_by-cons, sum_by-set}
use Rattle.fdp_base.specs.Numbers.{count_below, is_among}
use Rattle.fdp_base.proofs.Sums.{counting, sum_from, sum_from-cut, sum_from-last, sum_from-none, sum_from-same, sum_from-step, sum_from-zero}
use Rattle.fdp_tables.specs.declared.state.KeptBlock.{KeptBlock}
use Rattle.fdp_tables.specs.declared.state.KeptPage.{KeptPage}
use Rattle.fdp_tables.specs.Blocks.{AreCounted, lies_at, on_page}
use Rattle.fdp_tables.specs.State.{row}

-- the block at an address lies in a group
abbrev pub lying : ℕ → List (Option KeptBlock) → ℕ → Bool
lying rg places lba = lies_at rg (row places lba)

-- and is one of so many in a row
abbrev pub lying_among : ℕ → List (Option KeptBlock) → ℕ → ℕ → ℕ → Bool
lying_among rg places slba count lba = lying rg places lba && is_among slba count lba

-- ---- by places

-- one that lies there is counted
pub one-counted : (rg : ℕ) (places : List (Option KeptBlock)) (i : ℕ) (d : Option KeptBlock) → i < length places → cond (lies_at rg (get_or places i d)) 1 0 ≤ count_by (lies_at rg) places
one-counted rg [] i d low = absurd (omega (arith, low))
one-counted rg (x ∷ xs) zero d low = omega (arith, sum_by-cons (λ o. cond (lies_at rg o) 1 0) x xs)
one-counted rg (x ∷ xs) (suc i) d low = omega (arith, one-counted rg xs i d (omega (arith, low)), sum_by-cons (λ o. cond (lies_at rg o) 1 0) x xs)

-- at most all are counted
pub few-counted : (rg : ℕ) (places : List (Option KeptBlock)) → count_by (lies_at rg) places ≤ length places
few-counted rg [] = omega arith
few-counted rg (x ∷ xs) = let one : cond (lies_at rg x) 1 0 ≤ 1 = elim (lies_at rg x) as (λ b. cond b 1 0 ≤ 1) [ true ↦ omega arith | false ↦ omega arith ] in omega (arith, one, few-counted rg xs, sum_by-cons (λ o. cond (lies_at rg o) 1 0) x xs)

-- ---- a block that is put in its place

pub put_counted : (counts less more : List ℕ) (places : List (Option KeptBlock)) (at : ℕ) (old new : Option KeptBlock) → at < length places → old ≡ get_or places at old → AreCounted counts places
    → ((rg : ℕ) → rg < 16 → get_or less rg 0 + cond (lies_at rg old) 1 0 ≡ get_or counts rg 0) → ((rg : ℕ) → rg < 16 → get_or more rg 0 ≡ get_or less rg 0 + cond (lies_at rg new) 1 0) → AreCounted more (set places at new)
put_counted counts less more places at old new there is counted one_less one_more = λ rg low.
    let f : Option KeptBlock → ℕ = λ o. cond (lies_at rg o) 1 0 in
    omega (arith, sum_by-set f places at new old there, ap f is, one_less rg low, one_more rg low, counted rg low)

-- what stands in a row is what the list has there
pub row_or : (places : List (Option KeptBlock)) (at : ℕ) (d : Option KeptBlock) → at < length places → row places at ≡ get_or places at d
row_or places at d there = ap option_flatten (slice_get-get_or places at d there)

same-group : (rg : ℕ) (page : KeptPage) (o : Option KeptBlock) → lies_at rg (option_map (on_page page) o) ≡ lies_at rg o
same-group rg page None = refl
same-group rg page (Some b) = refl

-- with another page it lies in the same group
pub paged_counted : (counts : List ℕ) (places : List (Option KeptBlock)) (at : ℕ) (page : KeptPage) → at < length places → AreCounted counts places → AreCounted counts (set places at (option_map (on_page page) (row places at)))
paged_counted counts places at page there counted = λ rg low.
    let f : Option KeptBlock → ℕ = λ o. cond (lies_at rg o) 1 0 in
    let old : Option KeptBlock = get_or places at None in
    let read : row places at ≡ old = ap option_flatten (slice_get_read places (length places) at old refl there (sym (get_or_default places at old None there))) in
    let same : f (option_map (on_page page) (row places at)) ≡ f old = ap (λ b. cond b 1 0) (same-group rg page (row places at)) ∙ ap f read in
    omega (arith, sum_by-set f places at (option_map (on_page page) (row places at)) None there, same, counted rg low)

none-lie : (rg n : ℕ) → count_by (lies_at rg) (replicate n None) ≡ 0
none-lie rg zero = refl
none-lie rg (suc n) = omega (arith, none-lie rg n, sum_by-cons (λ o. cond (lies_at rg o) 1 0) None (replicate n None))

-- where no block is, none lies anywhere
pub absent_counted : (places : List (Option KeptBlock)) (size : ℕ) → places ≡ replicate size None → AreCounted (replicate 16 0) places
absent_counted places size e = λ rg low. get_or-replicate 16 rg 0 0 low ∙ sym (ap (count_by (lies_at rg)) e ∙ none-lie rg size)

-- ---- by addresses

-- a sum over the numbers behind those of another
moved-on : (f g : ℕ → ℕ) (first count : ℕ) → ((i : ℕ) → f (suc i) ≡ g i) → sum_from f (first + 1) count ≡ sum_from g first count
moved-on f g first zero h = sum_from-none f (first + 1) ∙ sym (sum_from-none g first)
moved-on f g first (suc count) h =
    let one : first + 1 ≡ suc first = omega arith in
    let here : f (first + 1) ≡ g first = ap f one ∙ h first in
    omega (arith, here, moved-on f g (first + 1) count h, sum_from-step f (first + 1) count, sum_from-step g first count)

-- the places are those of the addresses
pub places-counted : (rg : ℕ) (places : List (Option KeptBlock)) → count_by (lies_at rg) places ≡ sum_from (counting (lying rg places)) 0 (length places)
places-counted rg [] = sym (sum_from-none (counting (lying rg [])) 0)
places-counted rg (x ∷ xs) =
    let f = counting (lying rg (x ∷ xs)) in
    let g = counting (lying rg xs) in
    omega (arith, sum_by-cons (λ o. cond (lies_at rg o) 1 0) x xs, places-counted rg xs, sum_from-step f 0 (length xs), moved-on f g 0 (length xs) (λ i. refl))

-- ---- but for some in a row

two-ways : (a b : Bool) → cond (a && not b) 1 0 + cond (a && b) 1 0 ≡ cond a 1 0
two-ways true true = refl
two-ways true false = refl
two-ways false b = refl

split-counts : (a b : ℕ → Bool) (first count : ℕ) → sum_from (counting (λ i. a i && not (b i))) first count + sum_from (counting (λ i. a i && b i)) first count ≡ sum_from (counting a) first count
split-counts a b first zero = omega (arith, sum_from-none (counting (λ i. a i && not (b i))) first, sum_from-none (counting (λ i. a i && b i)) first, sum_from-none (counting a) first)
split-counts a b first (suc count) =
    omega (
      arith,
      two-ways (a first) (b first),
      split-counts a b (first + 1) count,
      sum_from-step (counting (λ i. a i && not (b i))) first count,
      sum_from-step (counting (λ i. a i && b i)) first count,
      sum_from-step (counting a) first count,
    )

-- the blocks of a group are those in a row and the others
pub others-counted : (rg : ℕ) (places : List (Option KeptBlock)) (slba count : ℕ)
    → count_below (length places) (λ lba. lying rg places lba && not (is_among slba count lba)) + count_below (length places) (lying_among rg places slba count) ≡ count_by (lies_at rg) places
others-counted rg places slba count = split-counts (lying rg places) (λ lba. is_among slba count lba) 0 (length places) ∙ sym (places-counted rg places)

passes : (a b : Bool) → b ≡ true → ◌≡◌ {A = ℕ} (cond (a && b) 1 0) (cond a 1 0)
passes true true is = refl
passes false b is = refl
passes true false is = absurd cc

-- all of them are in a row
pub all-among : (rg : ℕ) (places : List (Option KeptBlock)) (count : ℕ) → count ≡ length places → count_below (length places) (lying_among rg places 0 count) ≡ count_by (lies_at rg) places
all-among rg places count is =
    sum_from-same (counting (lying_among rg places 0 count)) (counting (lying rg places)) 0 (length places) (λ i low high. passes (lying rg places i) (is_among 0 count i) (inside count i (omega (arith, high, is))))
    ∙ sym (places-counted rg places) where
      inside : (count i : ℕ) → i < count → is_among 0 count i ≡ true
      inside count i low = grind (arith, nat_tests)

-- ---- those in a row

early : (slba count i : ℕ) → i < slba → is_among slba count i ≡ false
early slba count i low = grind (arith, nat_tests)

late : (slba count i : ℕ) → slba + count ≤ i → is_among slba count i ≡ false
late slba count i high = grind (arith, nat_tests)

fails : (a b : Bool) → b ≡ false → ◌≡◌ {A = ℕ} (cond (a && b) 1 0) 0
fails true false is = refl
fails true true is = absurd cc
fails false b is = refl

module _ (rg : ℕ) (places : List (Option KeptBlock)) (slba count : ℕ) where
  abbrev test : ℕ → ℕ
  test = counting (lying_among rg places slba count)

  -- so many of the row were looked at
  pub record IsLooking (index total : ℕ) : Type 0 where
    pub value : total ≡ sum_from test 0 (slba + index)
    pub bound : total ≤ index

  none-before : (n : ℕ) → n ≤ slba → sum_from test 0 n ≡ 0
  none-before n few = sum_from-zero test 0 n (λ i low high. fails (lying rg places i) (is_among slba count i) (early slba count i (omega (arith, high, few))))

  pub looking-first : IsLooking 0 0
  looking-first = record { value = let all : slba + 0 ≡ slba = omega arith in sym (ap (sum_from test 0) all ∙ none-before slba (omega arith)); bound = omega arith }

  one-at-most : (b : Bool) → cond b 1 0 ≤ 1
  one-at-most true = omega arith
  one-at-most false = omega arith

  within-row : (index : ℕ) → index < count → is_among slba count (slba + index) ≡ true
  within-row index low = grind (arith, nat_tests)

  pub looking-next : (index total : ℕ) → index < count → IsLooking index total → IsLooking (index + 1) (total + cond (lying rg places (slba + index)) 1 0)
  looking-next index total low h =
      let more : slba + (index + 1) ≡ slba + index + 1 = omega arith in
      let at : 0 + (slba + index) ≡ slba + index = omega arith in
      let here : test (slba + index) ≡ cond (lying rg places (slba + index)) 1 0 = passes (lying rg places (slba + index)) (is_among slba count (slba + index)) (within-row index low) in
      record {
        value = omega (arith, h.value, ap (sum_from test 0) more, sum_from-last test 0 (slba + index), ap test at, here);
        bound = omega (arith, h.bound, one-at-most (lying rg places (slba + index)));
      }

  none-behind : (from many : ℕ) → slba + count ≤ from → sum_from test from many ≡ 0
  none-behind from many high = sum_from-zero test from many (λ i low below. fails (lying rg places i) (is_among slba count i) (late slba count i (omega (arith, low, high))))

  -- the rest of the row is behind the last place
  pub looked-all : (index total : ℕ) → index ≡ min count (length places - slba) → IsLooking index total → total ≡ count_below (length places) (lying_among rg places slba count)
  looked-all index total end h = ⊎_elim
      (λ (before : length places < slba).
      let none : index ≡ 0 = omega (arith, end, before) in
      let all : slba + index ≡ slba = omega (arith, none) in
      omega (arith, h.value, ap (sum_from test 0) all, none-before slba (omega arith), none-before (length places) (omega (arith, before))))
      (λ (there : slba ≤ length places).
      let n = length places in
      let m = slba + index in
      let fits : m ≤ n = omega (arith, end, there) in
      let split : n ≡ m + (n - m) = omega (arith, fits) in
      let cut = ap (sum_from test 0) split ∙ sum_from-cut test 0 m (n - m) in
      let at : 0 + m ≡ m = omega arith in
      let rest : sum_from test (0 + m) (n - m) ≡ 0 = ap (λ (k : ℕ). sum_from test k (n - m)) at ∙ behind m (n - m) (last index end there) in
      omega (arith, h.value, cut, rest))
      (cases_lt n' slba) where
        n' : ℕ
        n' = length places

        last : (index : ℕ) → index ≡ min count (length places - slba) → slba ≤ length places → (slba + count ≤ slba + index) ⊎ (length places - (slba + index) ≡ 0)
        last index end there = ⊎_elim (λ (low : count < length places - slba). inl (omega (arith, end, low))) (λ (high : length places - slba ≤ count). inr (omega (arith, end, high))) (cases_lt count (length places - slba))

        behind : (m many : ℕ) → ((slba + count ≤ m) ⊎ (many ≡ 0)) → sum_from test m many ≡ 0
        behind m many (inl high) = none-behind m many high
        behind m many (inr none) = ap (sum_from test m) none ∙ sum_from-none test m
