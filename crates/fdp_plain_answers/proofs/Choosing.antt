-- Elements of a list that pass a test, chosen one after another.
use Rattle.std.proofs.Common.{◌≡◌, ℕ, ◌+◌, ◌<◌, ◌≤◌, Bool, true, false, List, [], ◌∷◌, ◌++◌, length, drop, get_or, refl, ap, sym, ◌∙◌, append_assoc, add-one, drop-cons}
use Rattle.std.specs.Prelude.{filter, if◌then◌else◌}
use Rattle.std.proofs.lemmas.List.{append-nil, drop_all}

-- the element, if it passes
abbrev pub chosen : {X : Type 0} → (X → Bool) → X → List X
chosen test x = if test x then x ∷ [] else []

-- what was chosen, and what passes of the rest, come to all that passes
pub record IsChoosing {X : Type 0} (test : X → Bool) (xs : List X) (i : ℕ) (out : List X) : Type 0 where
  pub value : out ++ filter test (drop i xs) ≡ filter test xs

by_test : {X : Type 0} (b : Bool) (x : X) (xs : List X) → (if b then x ∷ xs else xs) ≡ (if b then x ∷ [] else []) ++ xs
by_test true x xs = refl
by_test false x xs = refl

filter_cons : {X : Type 0} (test : X → Bool) (x : X) (xs : List X) → filter test (x ∷ xs) ≡ chosen test x ++ filter test xs
filter_cons test x xs = by_test (test x) x (filter test xs)

pub choosing_next : {X : Type 0} (test : X → Bool) (xs : List X) (i : ℕ) (out more : List X) (d : X) → i < length xs → more ≡ out ++ chosen test (get_or xs i d) → IsChoosing test xs i out → IsChoosing test xs (i + 1) more
choosing_next test xs i out more d below e h =
    let x = get_or xs i d in
    let behind = filter test (drop (i + 1) xs) in
    let rest : drop i xs ≡ x ∷ drop (i + 1) xs = rw (add-one) (drop-cons xs i d below) in
    record {
      value = ap (λ ys. ys ++ behind) e
          ∙ append_assoc out (chosen test x) behind
          ∙ ap (λ ys. out ++ ys) (sym (filter_cons test x (drop (i + 1) xs)))
          ∙ ap (λ ys. out ++ filter test ys) (sym rest) ∙ h.value;
    }

pub choosing_end : {X : Type 0} (test : X → Bool) (xs : List X) (i : ℕ) (out : List X) → length xs ≤ i → IsChoosing test xs i out → out ≡ filter test xs
choosing_end test xs i out past h =
    sym (append-nil out) ∙ ap (λ ys. out ++ filter test ys) (sym (drop_all i xs past)) ∙ h.value
