-- Elements of lists by their index.
use Rattle.std.proofs.Common.{◌≡◌, ◌≢◌, ◌⊎◌, ℕ, zero, suc, ◌<◌, List, [], ◌∷◌, ◌++◌, length, slice_set, Some, arith, refl, ap, take, replicate, inl, inr}
use Rattle.std.specs.List.{slice_get}
use Rattle.std.proofs.Math.Seq.{take-append_seam}

-- the element that was written
pub slice_get-set_same : {X : Type 0} → (xs : List X) (i : ℕ) (x : X) → i < length xs → slice_get (slice_set xs i x) i ≡ Some x
slice_get-set_same [] i x h = absurd (omega arith)
slice_get-set_same (y ∷ ys) zero x h = refl
slice_get-set_same (y ∷ ys) (suc i) x h = slice_get-set_same ys i x (omega arith)

-- an element that was not written
pub slice_get-set_other : {X : Type 0} → (xs : List X) (i j : ℕ) (x : X) → j ≢ i → slice_get (slice_set xs i x) j ≡ slice_get xs j
slice_get-set_other [] i j x h = refl
slice_get-set_other (y ∷ ys) zero zero x h = absurd (h refl)
slice_get-set_other (y ∷ ys) zero (suc j) x h = refl
slice_get-set_other (y ∷ ys) (suc i) zero x h = refl
slice_get-set_other (y ∷ ys) (suc i) (suc j) x h = slice_get-set_other ys i j x (λ e. h (ap suc e))

-- an element of the first of two lists
pub slice_get-append : {X : Type 0} → (xs ys : List X) (i : ℕ) (x : X) → slice_get xs i ≡ Some x → slice_get (xs ++ ys) i ≡ Some x
slice_get-append [] ys i x h = cc
slice_get-append (y ∷ xs) ys zero x h = h
slice_get-append (y ∷ xs) ys (suc i) x h = slice_get-append xs ys i x h

-- the element that was put behind a list
pub slice_get-append_last : {X : Type 0} → (xs : List X) (x : X) → slice_get (xs ++ x ∷ []) (length xs) ≡ Some x
slice_get-append_last [] x = refl
slice_get-append_last (y ∷ xs) x = slice_get-append_last xs x

-- an element after a write is the one that was written, or stood there before
pub set_cases : {X : Type 0} → (xs : List X) (i k : ℕ) (x y : X) → slice_get (slice_set xs i x) k ≡ Some y →
    ((k ≡ i) × (x ≡ y)) ⊎ ((k ≢ i) × (slice_get xs k ≡ Some y))
set_cases [] i k x y h = cc
set_cases (z ∷ zs) zero zero x y h = inl (refl, cc)
set_cases (z ∷ zs) zero (suc k) x y h = inr (λ e. absurd (omega arith), h)
set_cases (z ∷ zs) (suc i) zero x y h = inr (λ e. absurd (omega arith), h)
set_cases (z ∷ zs) (suc i) (suc k) x y h = elim (set_cases zs i k x y h) [
  | inl same ↦ inl (ap suc same.0, same.1)
  | inr other ↦ inr (λ e. other.0 (omega arith), other.1)
]

-- a write of what stands there changes nothing
pub slice_set-same : {X : Type 0} → (xs : List X) (i : ℕ) (x : X) → slice_get xs i ≡ Some x → slice_set xs i x ≡ xs
slice_set-same [] i x h = refl
slice_set-same (y ∷ ys) zero x h = let e : x ≡ y = cc in cc
slice_set-same (y ∷ ys) (suc i) x h = ap (λ zs. y ∷ zs) (slice_set-same ys i x h)

-- the front of two lists is the first one
pub take-front : {X : Type 0} → (xs ys : List X) (n : ℕ) → n ≡ length xs → take n (xs ++ ys) ≡ xs
take-front xs ys n e = rw e (take-append_seam xs ys)

-- an element of the first of two lists, or none behind it
pub slice_get-append_front : {X : Type 0} → (xs ys : List X) (i : ℕ) → i < length xs → slice_get (xs ++ ys) i ≡ slice_get xs i
slice_get-append_front [] ys i h = absurd (omega arith)
slice_get-append_front (x ∷ xs) ys zero h = refl
slice_get-append_front (x ∷ xs) ys (suc i) h = slice_get-append_front xs ys i (omega arith)

-- an element of a list with one more behind it
pub append_cases : {X : Type 0} → (xs : List X) (x y : X) (k : ℕ) → slice_get (xs ++ x ∷ []) k ≡ Some y → (slice_get xs k ≡ Some y) ⊎ ((k ≡ length xs) × (x ≡ y))
append_cases [] x y zero h = inr (refl, cc)
append_cases [] x y (suc k) h = cc
append_cases (z ∷ xs) x y zero h = inl h
append_cases (z ∷ xs) x y (suc k) h = elim (append_cases xs x y k h) [ inl there ↦ inl there | inr last ↦ inr (ap suc last.0, last.1) ]

-- an element of a list of equal ones
pub slice_get-replicate : {X : Type 0} → (n i : ℕ) (x : X) → i < n → slice_get (replicate n x) i ≡ Some x
slice_get-replicate zero i x h = absurd (omega arith)
slice_get-replicate (suc n) zero x h = refl
slice_get-replicate (suc n) (suc i) x h = slice_get-replicate n i x (omega arith)

-- there is an element at each index below the length
pub slice_get_there : {X : Type 0} → (xs : List X) (i : ℕ) → i < length xs → (x : X) × (slice_get xs i ≡ Some x)
slice_get_there [] i h = absurd (omega arith)
slice_get_there (x ∷ xs) zero h = (x, refl)
slice_get_there (x ∷ xs) (suc i) h = slice_get_there xs i (omega arith)
