-- Numbers in a row, taken from the front: counts, sums and searches over them.
use Rattle.std.proofs.Common.{◌≡◌, ℕ, ◌+◌, ◌<◌, ◌≤◌, Bool, true, false, List, ◌∷◌, None, Some, refl, ap, ◌∙◌, arith, cond}
use Rattle.std.specs.Prelude.{not, ◌&&◌, ◌==◌, sum_by, find, length, get_or}
use Rattle.std.proofs.Common.{drop, drop-cons, add-one}
use Rattle.std.proofs.lemmas.List.{drop_all}
use Rattle.std.proofs.lemmas.List.Sums.{sum_by-cons}
use Rattle.fdp_base.specs.Numbers.{is_among, count_below, numbers_below}
use Rattle.fdp_base.proofs.Sums.{rest_end, rest_next, rest_of}

pub record IsSumming (f : ℕ → ℕ) (n i total : ℕ) : Type 0 where
  pub value : total + sum_by f (rest_of i n) ≡ sum_by f (numbers_below n)

pub summing_next : (f : ℕ → ℕ) (n i total : ℕ) → i < n → IsSumming f n i total → IsSumming f n (i + 1) (total + f i)
summing_next f n i total below h =
    let e : sum_by f (rest_of i n) ≡ f i + sum_by f (rest_of (i + 1) n) =
    ap (sum_by f) (rest_next i n below) ∙ sum_by-cons f i (rest_of (i + 1) n) in
    record { value = omega (arith, e, h.value) }

pub summing_end : (f : ℕ → ℕ) (n i total : ℕ) → n ≤ i → IsSumming f n i total → total ≡ sum_by f (numbers_below n)
summing_end f n i total past h =
    let e : sum_by f (rest_of i n) ≡ 0 = ap (sum_by f) (rest_end i n past) in
    omega (arith, e, h.value)

pub record IsCounting (test : ℕ → Bool) (n i count : ℕ) : Type 0 where
  pub value : IsSumming (λ x. cond (test x) 1 0) n i count
  pub bound : count ≤ i

pub counting_next : (test : ℕ → Bool) (n i count : ℕ) → i < n → IsCounting test n i count → IsCounting test n (i + 1) (count + cond (test i) 1 0)
counting_next test n i count below h = record {
  value = summing_next (λ x. cond (test x) 1 0) n i count below h.value;
  bound = let b : cond (test i) 1 0 ≤ 1 = elim (test i) as (λ v. cond v 1 0 ≤ 1) [ true ↦ omega arith | false ↦ omega arith ] in omega (arith, b, h.bound);
}

pub counting_end : (test : ℕ → Bool) (n i count : ℕ) → n ≤ i → IsCounting test n i count → count ≡ count_below n test
counting_end test n i count past h = summing_end (λ x. cond (test x) 1 0) n i count past h.value

-- a test as a number
pub byte_is : (b : Bool) → (elim b as (λ _. ℕ) [ true ↦ 1 | false ↦ 0 ]) ≡ cond b 1 0
byte_is true = refl
byte_is false = refl

-- no address lies among none
pub none_among : (nsid lba : ℕ) → not (nsid == 0 && is_among 0 0 lba) ≡ true
none_among nsid lba = grind arith

-- the first of the rest of a list that passes is the first of all
pub record IsSeekingIn (test : ℕ → Bool) (xs : List ℕ) (i : ℕ) : Type 0 where
  pub rest : find test xs ≡ find test (drop i xs)

rest_in : (xs : List ℕ) (i : ℕ) → i < length xs → drop i xs ≡ get_or xs i 0 ∷ drop (i + 1) xs
rest_in xs i below = rw (add-one, drop-cons xs i 0) refl

pub seeking_in_next : (test : ℕ → Bool) (xs : List ℕ) (i : ℕ) → i < length xs → test (get_or xs i 0) ≡ false → IsSeekingIn test xs i → IsSeekingIn test xs (i + 1)
seeking_in_next test xs i below fails h = record {
  rest = h.rest ∙ ap (find test) (rest_in xs i below) ∙ ap (λ b. cond b (Some (get_or xs i 0)) (find test (drop (i + 1) xs))) fails;
}

pub seeking_in_found : (test : ℕ → Bool) (xs : List ℕ) (i : ℕ) → i < length xs → test (get_or xs i 0) ≡ true → IsSeekingIn test xs i → find test xs ≡ Some (get_or xs i 0)
seeking_in_found test xs i below passes h = h.rest ∙ ap (find test) (rest_in xs i below) ∙ ap (λ b. cond b (Some (get_or xs i 0)) (find test (drop (i + 1) xs))) passes

pub seeking_in_end : (test : ℕ → Bool) (xs : List ℕ) (i : ℕ) → length xs ≤ i → IsSeekingIn test xs i → find test xs ≡ None
seeking_in_end test xs i past h = h.rest ∙ ap (find test) (drop_all i xs past)
