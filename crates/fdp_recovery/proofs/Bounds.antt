-- Where a list is searched, the place found is one of it.
use Rattle.std.proofs.Common.{◌≡◌, ℕ, suc, ◌+◌, ◌^◌, ◌<◌, ◌≤◌, Bool, true, false, List, [], ◌∷◌, ◌++◌, length, Option, Some, None, refl, sym, ap, ◌∙◌, arith, ⊎_elim}
use Rattle.std.specs.Prelude.{IfSome, cond, if◌then◌else◌, nat_lt, not, option_map, position, sum_by}
use Rattle.std.specs.List.{enumerate_from, position_or_len}
use Rattle.std.proofs.lemmas.Bool.{cases_lt, le-ltb, lt-ltb}
use Rattle.std.proofs.lemmas.List.Sums.{sum_by-cons}
use Rattle.fdp_base.specs.declared.config.Class.{Class}
use Rattle.fdp_image.specs.BadFields.{or_else}
use Rattle.fdp_image.specs.CheckpointFields.{is_persistent}
use Rattle.std.proofs.lemmas.List.Quantifiers.{position-Some}

pub position_bound : {X : Type 0} (p : X → Bool) (xs : List X) (r : Option ℕ) → r ≡ position p xs → IfSome r (λ i. i < length xs)
position_bound p xs None e = tt
position_bound p [] (Some i) e = absurd cc
position_bound p (x ∷ xs) (Some i) e = (position-Some p (x ∷ xs) i x (sym e)).0

-- the persistent handles of a list, one handle and those behind it
pub mask_more : (place : ℕ) (class : Class) (rest whole : List Class) → whole ≡ class ∷ rest
    → (if is_persistent class then 2 ^ place else 0) + sum_by (λ (x : ℕ × Class). if is_persistent x.1 then 2 ^ x.0 else 0) (enumerate_from (place + 1) rest)
    ≡ sum_by (λ (x : ℕ × Class). if is_persistent x.1 then 2 ^ x.0 else 0) (enumerate_from place whole)
mask_more place class rest whole is =
    sym (sum_by-cons (λ (x : ℕ × Class). if is_persistent x.1 then 2 ^ x.0 else 0) (place, class) (enumerate_from (place + 1) rest))
    ∙ ap (λ (xs : List Class). sum_by (λ (x : ℕ × Class). if is_persistent x.1 then 2 ^ x.0 else 0) (enumerate_from place xs)) (sym is)

-- a place in a list that has at most so many
pub few_of : (r : Option ℕ) (n most : ℕ) → IfSome r (λ i. i < n) → n ≤ most → IfSome r (λ i. i < most)
few_of None n most h few = tt
few_of (Some i) n most h few = omega (arith, h, few)

-- the first element is none that is looked for
position_next : {X : Type 0} (p : X → Bool) (x : X) (xs : List X) → p x ≡ false → position p (x ∷ xs) ≡ option_map suc (position p xs)
position_next p x xs other =
    let n = position_or_len p xs in
    let step : position_or_len p (x ∷ xs) ≡ 1 + n = ap (λ (b : Bool). cond (not b) (1 + n) 0) other in
    ap (λ (k : ℕ). cond (nat_lt k (length (x ∷ xs))) (Some k) None) step
    ∙ ⊎_elim
    (λ (lt : n < length xs).
    ap (λ (b : Bool). cond b (Some (1 + n)) None) (lt-ltb (1 + n) (length (x ∷ xs)) (omega (arith, lt)))
    ∙ ap Some (add-suc n)
    ∙ sym (ap (λ (b : Bool). option_map suc (cond b (Some n) None)) (lt-ltb n (length xs) lt)))
    (λ (past : length xs ≤ n).
    ap (λ (b : Bool). cond b (Some (1 + n)) None) (le-ltb (1 + n) (length (x ∷ xs)) (omega (arith, past)))
    ∙ sym (ap (λ (b : Bool). option_map suc (cond b (Some n) None)) (le-ltb n (length xs) past)))
    (cases_lt n (length xs))
  where
    add-suc : (n : ℕ) → 1 + n ≡ suc n
    add-suc n = omega arith

-- the first element is looked for
position_here : {X : Type 0} (p : X → Bool) (x : X) (xs : List X) → p x ≡ true → position p (x ∷ xs) ≡ Some 0
position_here p x xs is =
    let step : position_or_len p (x ∷ xs) ≡ 0 = ap (λ (b : Bool). cond (not b) (1 + position_or_len p xs) 0) is in
    ap (λ (k : ℕ). cond (nat_lt k (length (x ∷ xs))) (Some k) None) step
    ∙ ap (λ (b : Bool). cond b (Some 0) None) (lt-ltb 0 (length (x ∷ xs)) (omega arith))

-- a place in two pieces: in the first, or behind it in the second
pub position_behind : {X : Type 0} (p : X → Bool) (xs ys : List X) → position p (xs ++ ys) ≡ or_else (position p xs) (option_map (λ i. length xs + i) (position p ys))
position_behind {X} p [] ys = same (position p ys) where
  same : (o : Option ℕ) → o ≡ option_map (λ i. 0 + i) o
  same None = refl
  same (Some i) = ap Some (zero i) where
    zero : (i : ℕ) → i ≡ 0 + i
    zero i = omega arith
position_behind {X} p (x ∷ xs) ys = of_test (p x) refl (position_behind p xs ys) where
  next : (first second : Option ℕ) → option_map suc (or_else first (option_map (λ i. length xs + i) second)) ≡ or_else (option_map suc first) (option_map (λ i. length (x ∷ xs) + i) second)
  next (Some i) second = refl
  next None None = refl
  next None (Some i) = ap Some (more (length xs) i) where
    more : (n i : ℕ) → suc (n + i) ≡ suc n + i
    more n i = omega arith

  of_test : (b : Bool) → p x ≡ b → position p (xs ++ ys) ≡ or_else (position p xs) (option_map (λ i. length xs + i) (position p ys))
      → position p (x ∷ (xs ++ ys)) ≡ or_else (position p (x ∷ xs)) (option_map (λ i. length (x ∷ xs) + i) (position p ys))
  of_test true is again = position_here p x (xs ++ ys) is ∙ sym (ap (λ (o : Option ℕ). or_else o (option_map (λ i. length (x ∷ xs) + i) (position p ys))) (position_here p x xs is))
  of_test false other again =
      position_next p x (xs ++ ys) other
      ∙ ap (option_map suc) again
      ∙ next (position p xs) (position p ys)
      ∙ sym (ap (λ (o : Option ℕ). or_else o (option_map (λ i. length (x ∷ xs) + i) (position p ys))) (position_next p x xs other))
