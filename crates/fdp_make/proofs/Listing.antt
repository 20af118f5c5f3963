-- Numbers from the front: a list that is made of them, and a count of those that pass a test.
use Rattle.std.proofs.Common.{◌≡◌, ℕ, ◌+◌, ◌-◌, ◌<◌, ◌≤◌, Bool, true, false, cond, List, [], ◌∷◌, ◌++◌, map, sym, ◌∙◌, ap, append_assoc, add-one, arith, refl}
use Rattle.std.specs.Prelude.{sum_by}
use mathlib.Core.List.{append-nil}
use Rattle.std.proofs.lemmas.List.Sums.{sum_by-cons}
use Rattle.fdp_base.specs.Numbers.{count_below, numbers_below, numbers_from}
use Rattle.fdp_base.proofs.Sums.{rest_end, rest_next, rest_of}
use Rattle.fdp_make.specs.Load.{following, number_at}

module _ {X : Type 0} (f : ℕ → X) where
  -- the images of the numbers below one are done
  pub record IsListing (n i : ℕ) (done : List X) : Type 0 where
    pub whole : done ++ map f (rest_of i n) ≡ map f (numbers_below n)

  pub listing_next : (n i : ℕ) (done : List X) (x : X) → i < n → x ≡ f i → IsListing n i done → IsListing n (i + 1) (done ++ x ∷ [])
  listing_next n i done x below is h = record {
    whole =
        append_assoc done (x ∷ []) (map f (rest_of (i + 1) n))
        ∙ ap (λ (y : X). done ++ y ∷ map f (rest_of (i + 1) n)) is
        ∙ ap (λ (xs : List ℕ). done ++ map f xs) (sym (rest_next i n below))
        ∙ h.whole;
  }

  pub listing_end : (n i : ℕ) (done : List X) → n ≤ i → IsListing n i done → done ≡ map f (numbers_below n)
  listing_end n i done past h = sym (append-nil done) ∙ ap (λ (xs : List ℕ). done ++ map f xs) (sym (rest_end i n past)) ∙ h.whole

-- the numbers below one are counted
pub record IsCounting (test : ℕ → Bool) (n i count : ℕ) : Type 0 where
  pub whole : count + sum_by (λ x. cond (test x) 1 0) (rest_of i n) ≡ count_below n test

pub counting_first : (test : ℕ → Bool) (n : ℕ) → IsCounting test n 0 0
counting_first test n =
    let all : n - 0 ≡ n = omega arith in
    let f : ℕ → ℕ = λ x. cond (test x) 1 0 in
    let e : sum_by f (rest_of 0 n) ≡ sum_by f (numbers_below n) = ap (λ (k : ℕ). sum_by f (numbers_from 0 k)) all in
    record { whole = omega (arith, e) }

pub counting_next : (test : ℕ → Bool) (n i count : ℕ) → i < n → IsCounting test n i count → IsCounting test n (i + 1) (count + cond (test i) 1 0)
counting_next test n i count below h =
    let f : ℕ → ℕ = λ x. cond (test x) 1 0 in
    let e : sum_by f (rest_of i n) ≡ f i + sum_by f (rest_of (i + 1) n) = ap (sum_by f) (rest_next i n below) ∙ sum_by-cons f i (rest_of (i + 1) n) in
    record { whole = omega (arith, e, h.whole) }

pub counting_end : (test : ℕ → Bool) (n i count : ℕ) → n ≤ i → IsCounting test n i count → count ≡ count_below n test
counting_end test n i count past h =
    let f : ℕ → ℕ = λ x. cond (test x) 1 0 in
    let e : sum_by f (rest_of i n) ≡ 0 = ap (sum_by f) (rest_end i n past) in
    omega (arith, e, h.whole)

-- a test as a number
pub bit_is : (b : Bool) → (elim b as (λ _. ℕ) [ true ↦ 1 | false ↦ 0 ]) ≡ cond b 1 0
bit_is true = refl
bit_is false = refl

pub bit_bound : (b : Bool) → cond b 1 0 ≤ 1
bit_bound true = omega arith
bit_bound false = omega arith

-- the row of numbers goes on
pub number_next : (trace k : ℕ) → following (number_at trace k) ≡ number_at trace (k + 1)
unfolding number_at
number_next trace k = ap (number_at trace) (sym (add-one k))
