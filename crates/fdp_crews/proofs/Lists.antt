-- Lists of things that are numbered in a row, and their parts.
use Rattle.std.proofs.Common.{◌≡◌, ℕ, suc, ◌+◌, ◌-◌, ◌<◌, ◌≤◌, get_or, List, [], ◌∷◌, ◌++◌, length, refl, ◌∙◌, ap, arith, inl, inr}
use Rattle.std.specs.Prelude.{All, map, sum_by}
use Rattle.std.proofs.lemmas.Bool.{cases_lt}
use Rattle.std.proofs.lemmas.List.Elements.{All-cons, All-head, All-nil, All-tail}
use Rattle.std.proofs.lemmas.List.Sums.{sum_by-cons}
use Rattle.fdp_base.specs.Numbers.{numbers_from}

pub all-front : {X : Type 0} (P : X → Type 0) (xs ys : List X) → All P (xs ++ ys) → All P xs
all-front P [] ys all = All-nil P
all-front P (x ∷ xs) ys all = All-cons P x xs (All-head P x (xs ++ ys) all) (all-front P xs ys (All-tail P x (xs ++ ys) all))

pub all-behind : {X : Type 0} (P : X → Type 0) (xs ys : List X) → All P (xs ++ ys) → All P ys
all-behind P [] ys all = all
all-behind P (x ∷ xs) ys all = all-behind P xs ys (All-tail P x (xs ++ ys) all)

pub all-unmapped : {X Y : Type 0} (P : Y → Type 0) (f : X → Y) (xs : List X) → All P (map f xs) → All (λ x. P (f x)) xs
all-unmapped P f [] all = All-nil (λ x. P (f x))
all-unmapped P f (x ∷ xs) all = All-cons (λ x. P (f x)) x xs (All-head P (f x) (map f xs) all) (all-unmapped P f xs (All-tail P (f x) (map f xs) all))

pub all-both : {X : Type 0} (P Q : X → Type 0) (xs : List X) → All P xs → All Q xs → All (λ x. P x × Q x) xs
all-both P Q [] a b = All-nil (λ x. P x × Q x)
all-both P Q (x ∷ xs) a b = All-cons (λ x. P x × Q x) x xs (All-head P x xs a, All-head Q x xs b) (all-both P Q xs (All-tail P x xs a) (All-tail Q x xs b))

-- as many as there are ones
pub sum-ones : {X : Type 0} (f : X → ℕ) (xs : List X) → All (λ x. f x ≡ 1) xs → sum_by f xs ≡ length xs
sum-ones f [] all = refl
sum-ones f (x ∷ xs) all = omega (arith, sum_by-cons f x xs, All-head (λ x. f x ≡ 1) x xs all, sum-ones f xs (All-tail (λ x. f x ≡ 1) x xs all))

head-number : (x first : ℕ) (xs ys : List ℕ) → x ∷ xs ≡ first ∷ ys → (x ≡ first) × (xs ≡ ys)
head-number x first xs ys e = (cc, cc)

-- the one with a number, where they are numbered in a row
pub found-at : {X Y : Type 0} (number : X → ℕ) (got : X → Y) (none : Y) (P : X → Type 0) (xs : List X) (first q : ℕ) → map number xs ≡ numbers_from first (length xs) → first ≤ q → q < first + length xs → All P xs →
    (x : X) × P x × (number x ≡ q) × (get_or (map got xs) (q - first) none ≡ got x)
unfolding numbers_from
found-at number got none P [] first q row low high all = absurd (omega (arith, low, high))
found-at number got none P (x ∷ xs) first q row low high all =
    let h = head-number (number x) first (map number xs) (numbers_from (first + 1) (length xs)) row in
    elim (cases_lt first q) [
      | inl later ↦
          let more : first + 1 ≤ q = omega (arith, later) in
          let most : q < first + 1 + length xs = omega (arith, high) in
          let r = found-at number got none P xs (first + 1) q h.1 more most (All-tail P x xs all) in
          let step : q - first ≡ suc (q - (first + 1)) = omega (arith, later) in
          (r.0, r.1, r.2, ap (λ (k : ℕ). get_or (got x ∷ map got xs) k none) step ∙ r.3)
      | inr here ↦
          let same : first ≡ q = omega (arith, low, here) in
          let place : q - first ≡ 0 = omega (arith, same) in
          (x, All-head P x xs all, h.0 ∙ same, ap (λ (k : ℕ). get_or (got x ∷ map got xs) k none) place)
    ]

-- and each of them has a number in the row
pub number-in : {X : Type 0} (number : X → ℕ) (xs : List X) (first : ℕ) → map number xs ≡ numbers_from first (length xs) → All (λ x. (first ≤ number x) × (number x < first + length xs)) xs
unfolding numbers_from
number-in number [] first row = All-nil (λ x. (first ≤ number x) × (number x < first + 0))
number-in {X} number (x ∷ xs) first row =
    let h = head-number (number x) first (map number xs) (numbers_from (first + 1) (length xs)) row in
    let P : X → Type 0 = λ y. (first ≤ number y) × (number y < first + suc (length xs)) in
    All-cons P x xs (omega (arith, h.0), omega (arith, h.0)) (wider (number-in number xs (first + 1) h.1))
  where
    wider : All (λ y. (first + 1 ≤ number y) × (number y < first + 1 + length xs)) xs → All (λ y. (first ≤ number y) × (number y < first + suc (length xs))) xs
    wider all = λ k d low. let p = all k d low in (omega (arith, p.0), omega (arith, p.1))
