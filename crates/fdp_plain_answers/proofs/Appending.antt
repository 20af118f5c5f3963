-- Bytes that are appended piece by piece.
use Rattle.std.proofs.Common.{◌≡◌, ℕ, ◌+◌, ◌<◌, ◌≤◌, List, ◌∷◌, ◌++◌, length, drop, get_or, ap, sym, ◌∙◌, append_assoc, add-one, arith, drop-cons, ◌-◌}
use Rattle.std.specs.Prelude.{flat_map}
use Rattle.std.specs.List.{enumerate_from}
use Rattle.std.proofs.lemmas.List.{append-nil, drop_all}
use Rattle.fdp_base.specs.Numbers.{numbers_below, numbers_from}
use Rattle.fdp_base.proofs.Sums.{rest_end, rest_next, rest_of}

-- what was appended, and what is left, come to the whole
pub record IsAppending (piece : ℕ → List ℕ) (n i : ℕ) (start out : List ℕ) : Type 0 where
  pub value : out ++ flat_map piece (rest_of i n) ≡ start ++ flat_map piece (numbers_below n)

pub appending_next : (piece : ℕ → List ℕ) (n i : ℕ) (start out : List ℕ) → i < n → IsAppending piece n i start out → IsAppending piece n (i + 1) start (out ++ piece i)
appending_next piece n i start out below h = record {
  value = append_assoc out (piece i) (flat_map piece (rest_of (i + 1) n))
      ∙ ap (λ xs. out ++ flat_map piece xs) (sym (rest_next i n below)) ∙ h.value;
}

pub appending_end : (piece : ℕ → List ℕ) (n i : ℕ) (start out : List ℕ) → n ≤ i → IsAppending piece n i start out → out ≡ start ++ flat_map piece (numbers_below n)
appending_end piece n i start out past h =
    sym (append-nil out) ∙ ap (λ xs. out ++ flat_map piece xs) (sym (rest_end i n past)) ∙ h.value

-- the same, for each element of a list with its place
pub record IsAppendingPlaces (piece : (ℕ × ℕ) → List ℕ) (xs : List ℕ) (i : ℕ) (start out : List ℕ) : Type 0 where
  pub value : out ++ flat_map piece (enumerate_from i (drop i xs)) ≡ start ++ flat_map piece (enumerate_from 0 xs)

pub appending_places_next : (piece : (ℕ × ℕ) → List ℕ) (xs : List ℕ) (i : ℕ) (start out more : List ℕ) (d : ℕ) → i < length xs → more ≡ out ++ piece (i, get_or xs i d) → IsAppendingPlaces piece xs i start out → IsAppendingPlaces piece xs (i + 1) start more
appending_places_next piece xs i start out more d below e h =
    let x = get_or xs i d in
    let rest : drop i xs ≡ x ∷ drop (i + 1) xs = rw (add-one) (drop-cons xs i d below) in
    let behind = flat_map piece (enumerate_from (i + 1) (drop (i + 1) xs)) in
    record {
      value = ap (λ ys. ys ++ behind) e
          ∙ append_assoc out (piece (i, x)) behind
          ∙ ap (λ ys. out ++ flat_map piece (enumerate_from i ys)) (sym rest) ∙ h.value;
    }

pub appending_places_end : (piece : (ℕ × ℕ) → List ℕ) (xs : List ℕ) (i : ℕ) (start out : List ℕ) → length xs ≤ i → IsAppendingPlaces piece xs i start out → out ≡ start ++ flat_map piece (enumerate_from 0 xs)
appending_places_end piece xs i start out past h =
    sym (append-nil out) ∙ ap (λ ys. out ++ flat_map piece (enumerate_from i ys)) (sym (drop_all i xs past)) ∙ h.value

-- the same, for numbers from one on
pub record IsAppendingFrom (piece : ℕ → List ℕ) (first n i : ℕ) (start out : List ℕ) : Type 0 where
  pub value : out ++ flat_map piece (rest_of i n) ≡ start ++ flat_map piece (rest_of first n)

pub appending_from_next : (piece : ℕ → List ℕ) (first n i : ℕ) (start out more : List ℕ) → i < n → more ≡ out ++ piece i → IsAppendingFrom piece first n i start out → IsAppendingFrom piece first n (i + 1) start more
appending_from_next piece first n i start out more below e h = record {
  value = ap (λ ys. ys ++ flat_map piece (rest_of (i + 1) n)) e
      ∙ append_assoc out (piece i) (flat_map piece (rest_of (i + 1) n))
      ∙ ap (λ xs. out ++ flat_map piece xs) (sym (rest_next i n below)) ∙ h.value;
}

pub appending_from_end : (piece : ℕ → List ℕ) (first count i : ℕ) (start out : List ℕ) → first + count ≤ i → IsAppendingFrom piece first (first + count) i start out → out ≡ start ++ flat_map piece (numbers_from first count)
appending_from_end piece first count i start out past h =
    let all : first + count - first ≡ count = omega arith in
    sym (append-nil out) ∙ ap (λ xs. out ++ flat_map piece xs) (sym (rest_end i (first + count) past)) ∙ h.value
    ∙ ap (λ n. start ++ flat_map piece (numbers_from first n)) all
