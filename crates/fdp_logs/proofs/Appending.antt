-- Bytes that are appended for each element of a list.
use Rattle.std.proofs.Common.{◌≡◌, ℕ, ◌+◌, ◌<◌, ◌≤◌, List, ◌∷◌, ◌++◌, length, drop, get_or, ap, sym, ◌∙◌, append_assoc, add-one, drop-cons}
use Rattle.std.specs.Prelude.{flat_map}
use Rattle.std.proofs.lemmas.List.{append-nil, drop_all}

-- what was appended, and what is left, come to the whole
pub record IsAppendingOver {X : Type 0} (piece : X → List ℕ) (xs : List X) (i : ℕ) (start out : List ℕ) : Type 0 where
  pub value : out ++ flat_map piece (drop i xs) ≡ start ++ flat_map piece xs

pub appending_over_next : {X : Type 0} (piece : X → List ℕ) (xs : List X) (i : ℕ) (start out more : List ℕ) (d : X) → i < length xs → more ≡ out ++ piece (get_or xs i d) → IsAppendingOver piece xs i start out → IsAppendingOver piece xs (i + 1) start more
appending_over_next piece xs i start out more d below e h =
    let x = get_or xs i d in
    let rest : drop i xs ≡ x ∷ drop (i + 1) xs = rw (add-one) (drop-cons xs i d below) in
    record {
      value = ap (λ ys. ys ++ flat_map piece (drop (i + 1) xs)) e
          ∙ append_assoc out (piece x) (flat_map piece (drop (i + 1) xs))
          ∙ ap (λ ys. out ++ flat_map piece ys) (sym rest) ∙ h.value;
    }

pub appending_over_end : {X : Type 0} (piece : X → List ℕ) (xs : List X) (i : ℕ) (start out : List ℕ) → length xs ≤ i → IsAppendingOver piece xs i start out → out ≡ start ++ flat_map piece xs
appending_over_end piece xs i start out past h =
    sym (append-nil out) ∙ ap (λ ys. out ++ flat_map piece ys) (sym (drop_all i xs past)) ∙ h.value

pub joined_3 : (s a b d : List ℕ) → s ++ a ++ b ++ d ≡ s ++ (a ++ b ++ d)
joined_3 s a b d = ap (λ x. x ++ d) (append_assoc s a b) ∙ append_assoc s (a ++ b) d
