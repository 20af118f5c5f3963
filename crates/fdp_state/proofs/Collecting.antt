-- Numbers below a bound that pass a test, collected one by one.
use Rattle.std.proofs.Common.{◌≡◌, ℕ, zero, suc, ◌+◌, Bool, true, false, List, [], ◌∷◌, ◌++◌, refl, ap, sym, ◌∙◌, arith, map, filter, append_assoc, add-one, zero-add}
use mathlib.Core.List.{append-nil}
use Rattle.std.specs.Prelude.{if◌then◌else◌}
use Rattle.fdp_base.specs.Numbers.{numbers_below, numbers_from}

numbers_more : (first n : ℕ) → numbers_from first (suc n) ≡ numbers_from first n ++ (first + n) ∷ []
unfolding numbers_from
numbers_more first zero = let e : first ≡ first + 0 = omega arith in ap (λ (k : ℕ). k ∷ []) e
numbers_more first (suc n) =
    let e : first + 1 + n ≡ first + suc n = omega arith in
    ap (λ (xs : List ℕ). first ∷ xs) (numbers_more (first + 1) n ∙ ap (λ (k : ℕ). numbers_from (first + 1) n ++ k ∷ []) e)

module _ {X : Type 0} (f : ℕ → X) (test : ℕ → Bool) where
  abbrev chosen : List ℕ → List X
  chosen xs = map f (filter test xs)

  chosen_push : (xs : List ℕ) (n : ℕ) → chosen (xs ++ n ∷ []) ≡ chosen xs ++ (if test n then f n ∷ [] else [])
  chosen_push [] n = of_test (test n) where
    of_test : (b : Bool) → map f (if b then n ∷ [] else []) ≡ (if b then f n ∷ [] else [])
    of_test true = refl
    of_test false = refl
  chosen_push (x ∷ xs) n = of_test (test x) (chosen_push xs n) where
    of_test : (b : Bool) → chosen (xs ++ n ∷ []) ≡ chosen xs ++ (if test n then f n ∷ [] else [])
        → map f (if b then x ∷ filter test (xs ++ n ∷ []) else filter test (xs ++ n ∷ [])) ≡ map f (if b then x ∷ filter test xs else filter test xs) ++ (if test n then f n ∷ [] else [])
    of_test true e = ap (λ (ys : List X). f x ∷ ys) e
    of_test false e = e

  -- those below a number were put behind others
  pub record IsChosen (n : ℕ) (old new : List X) : Type 0 where
    pub items : new ≡ old ++ map f (filter test (numbers_below n))

  pub chosen_none : (old : List X) → IsChosen 0 old old
  unfolding numbers_from
  chosen_none old = record { items = sym (append-nil old) }

  pub chosen_start : (new : List X) → new ≡ [] → IsChosen 0 [] new
  unfolding numbers_from
  chosen_start new e = record { items = e }

  pub chosen_more : (n : ℕ) (old mid new : List X) → new ≡ mid ++ (if test n then f n ∷ [] else []) → IsChosen n old mid → IsChosen (n + 1) old new
  chosen_more n old mid new one h = record {
    items =
        one
        ∙ ap (λ (xs : List X). xs ++ (if test n then f n ∷ [] else [])) h.items
        ∙ append_assoc old (map f (filter test (numbers_below n))) (if test n then f n ∷ [] else [])
        ∙ ap (λ (xs : List X). old ++ xs)
        (sym (chosen_push (numbers_below n) n) ∙ ap (λ (xs : List ℕ). map f (filter test xs)) (sym (ap (numbers_from 0) (add-one n) ∙ numbers_more 0 n ∙ ap (λ (k : ℕ). numbers_below n ++ k ∷ []) (zero-add n))));
  }
