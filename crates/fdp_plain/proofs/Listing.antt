-- What is found in lists that are made number by number.
use Rattle.std.proofs.Common.{◌≡◌, ◌≢◌, ℕ, zero, suc, ◌+◌, ◌≤◌, ◌<◌, Bool, true, false, cond, find, List, [], ◌∷◌, Option, Some, None, refl, ◌∙◌, ap, arith, ⊎_elim}
use Rattle.std.specs.Prelude.{◌&&◌, ◌||◌, filter, filter_map, flat_map, map}
use Rattle.std.specs.List.{cons_option, list_any}
use Rattle.std.specs.Option.{option_or}
use Rattle.std.proofs.lemmas.Bool.{cases_eq}
use Rattle.std.proofs.lemmas.List.Folds.{find-append, list_any-append}
use Rattle.fdp_base.specs.Numbers.{numbers_from}

-- ---- one or none for each number

pub find-mapped_none : {X : Type 0} (f : ℕ → Option X) (test : X → Bool) (first count : ℕ) → ((n : ℕ) (x : X) → first ≤ n → f n ≡ Some x → test x ≡ false) → find test (filter_map f (numbers_from first count)) ≡ None
unfolding numbers_from
find-mapped_none f test first zero no_one = refl
find-mapped_none {X} f test first (suc count) no_one =
    let rest : find test (filter_map f (numbers_from (first + 1) count)) ≡ None = find-mapped_none f test (first + 1) count (λ n x low is. no_one n x (omega (arith, low)) is) in
    let P : Option X → Type 0 = λ o. f first ≡ o → find test (cons_option o (filter_map f (numbers_from (first + 1) count))) ≡ None in
    elim (f first) as P [
      | None ↦ λ _. rest
      | Some x ↦ λ is. ap (λ b. cond b (Some x) (find test (filter_map f (numbers_from (first + 1) count)))) (no_one first x (omega arith) is) ∙ rest
    ] refl

pub find-mapped : {X : Type 0} (f : ℕ → Option X) (test : X → Bool) (first count k : ℕ) → ((n : ℕ) (x : X) → n ≢ k → f n ≡ Some x → test x ≡ false) → ((x : X) → f k ≡ Some x → test x ≡ true) → first ≤ k → k < first + count
    → find test (filter_map f (numbers_from first count)) ≡ f k
unfolding numbers_from
find-mapped f test first zero k others own low high = absurd (omega (arith, low, high))
find-mapped {X} f test first (suc count) k others own low high =
    ⊎_elim
    (λ (same : first ≡ k).
    let rest : find test (filter_map f (numbers_from (first + 1) count)) ≡ None = find-mapped_none f test (first + 1) count (λ n x above is. others n x (λ e. omega (arith, above, e, same)) is) in
    let P : Option X → Type 0 = λ o. f k ≡ o → find test (cons_option o (filter_map f (numbers_from (first + 1) count))) ≡ o in
    ap (λ n. find test (cons_option (f n) (filter_map f (numbers_from (first + 1) count)))) same
    ∙ elim (f k) as P [
      | None ↦ λ _. rest
      | Some x ↦ λ is. ap (λ b. cond b (Some x) (find test (filter_map f (numbers_from (first + 1) count)))) (own x is)
    ] refl)
    (λ (ne : first ≢ k).
    let rest : find test (filter_map f (numbers_from (first + 1) count)) ≡ f k = find-mapped f test (first + 1) count k others own (omega (arith, low, ne)) (omega (arith, high)) in
    let P : Option X → Type 0 = λ o. f first ≡ o → find test (cons_option o (filter_map f (numbers_from (first + 1) count))) ≡ f k in
    elim (f first) as P [
      | None ↦ λ _. rest
      | Some x ↦ λ is. ap (λ b. cond b (Some x) (find test (filter_map f (numbers_from (first + 1) count)))) (others first x ne is) ∙ rest
    ] refl)
    (cases_eq first k)

-- ---- a list for each number

pub find-flat_none : {X : Type 0} (f : ℕ → List X) (test : X → Bool) (first count : ℕ) → ((n : ℕ) → first ≤ n → find test (f n) ≡ None) → find test (flat_map f (numbers_from first count)) ≡ None
unfolding numbers_from
find-flat_none f test first zero no_one = refl
find-flat_none f test first (suc count) no_one =
    find-append test (f first) (flat_map f (numbers_from (first + 1) count))
    ∙ ap (λ o. option_or o (find test (flat_map f (numbers_from (first + 1) count)))) (no_one first (omega arith))
    ∙ find-flat_none f test (first + 1) count (λ n low. no_one n (omega (arith, low)))

pub find-flat : {X : Type 0} (f : ℕ → List X) (test : X → Bool) (first count k : ℕ) → ((n : ℕ) → n ≢ k → find test (f n) ≡ None) → first ≤ k → k < first + count
    → find test (flat_map f (numbers_from first count)) ≡ find test (f k)
unfolding numbers_from
find-flat f test first zero k others low high = absurd (omega (arith, low, high))
find-flat {X} f test first (suc count) k others low high =
    find-append test (f first) (flat_map f (numbers_from (first + 1) count))
    ∙ ⊎_elim
    (λ (same : first ≡ k).
    ap (option_or (find test (f first))) (find-flat_none f test (first + 1) count (λ n above. others n (λ e. omega (arith, above, e, same))))
    ∙ or-none (find test (f first)) ∙ ap (λ n. find test (f n)) same)
    (λ (ne : first ≢ k).
    ap (λ o. option_or o (find test (flat_map f (numbers_from (first + 1) count)))) (others first ne)
    ∙ find-flat f test (first + 1) count k others (omega (arith, low, ne)) (omega (arith, high)))
    (cases_eq first k)
  where
    or-none : (o : Option X) → option_or o None ≡ o
    or-none None = refl
    or-none (Some x) = refl

-- ---- whether any of them passes a test

pub any-flat_none : {X : Type 0} (f : ℕ → List X) (test : X → Bool) (first count : ℕ) → ((n : ℕ) → first ≤ n → list_any test (f n) ≡ false) → list_any test (flat_map f (numbers_from first count)) ≡ false
unfolding numbers_from
any-flat_none f test first zero no_one = refl
any-flat_none f test first (suc count) no_one =
    list_any-append test (f first) (flat_map f (numbers_from (first + 1) count))
    ∙ ap (λ b. b || list_any test (flat_map f (numbers_from (first + 1) count))) (no_one first (omega arith))
    ∙ any-flat_none f test (first + 1) count (λ n low. no_one n (omega (arith, low)))

pub any-flat : {X : Type 0} (f : ℕ → List X) (test : X → Bool) (first count k : ℕ) → ((n : ℕ) → n ≢ k → list_any test (f n) ≡ false) → first ≤ k → k < first + count
    → list_any test (flat_map f (numbers_from first count)) ≡ list_any test (f k)
unfolding numbers_from
any-flat f test first zero k others low high = absurd (omega (arith, low, high))
any-flat f test first (suc count) k others low high =
    list_any-append test (f first) (flat_map f (numbers_from (first + 1) count))
    ∙ ⊎_elim
    (λ (same : first ≡ k).
    ap (λ b. list_any test (f first) || b) (any-flat_none f test (first + 1) count (λ n above. others n (λ e. omega (arith, above, e, same))))
    ∙ or-false (list_any test (f first)) ∙ ap (λ n. list_any test (f n)) same)
    (λ (ne : first ≢ k).
    ap (λ b. b || list_any test (flat_map f (numbers_from (first + 1) count))) (others first ne)
    ∙ any-flat f test (first + 1) count k others (omega (arith, low, ne)) (omega (arith, high)))
    (cases_eq first k)
  where
    or-false : (b : Bool) → (b || false) ≡ b
    or-false true = refl
    or-false false = refl

-- of what is made of those that pass a test
pub any-kept : {K X : Type 0} (p : K → Bool) (g : K → X) (test : X → Bool) (xs : List K) → list_any test (map g (filter p xs)) ≡ list_any (λ k. p k && test (g k)) xs
any-kept p g test [] = refl
any-kept {K} p g test (x ∷ xs) =
    let P : Bool → Type 0 = λ b. list_any test (map g (cond b (x ∷ filter p xs) (filter p xs))) ≡ (b && test (g x) || list_any (λ k. p k && test (g k)) xs) in
    elim (p x) as P [ true ↦ ap (λ b. test (g x) || b) (any-kept p g test xs) | false ↦ any-kept p g test xs ]
