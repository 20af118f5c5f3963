-- A list whose elements are looked at one after another.
use Rattle.std.proofs.Common.{ℕ, suc, ◌+◌, ◌<◌, ◌≤◌, All, List, [], ◌∷◌, get_or, length, subst, sym, take, arith}
use Rattle.std.specs.List.{AllByRecursion}
use Rattle.std.proofs.lemmas.List.{take_all, take_more}
use Rattle.std.proofs.lemmas.List.Elements.{All-push}

pub one-more : {A : Type 0} (P : A → Type 0) (xs : List A) (i : ℕ) (d : A) → i < length xs → All P (take i xs) → P (get_or xs i d) → All P (take (i + 1) xs)
one-more P xs i d low before here = subst (All P) (sym (take_more xs i d low)) (All-push P (take i xs) (get_or xs i d) before here)

pub no-more : {A : Type 0} (P : A → Type 0) (xs : List A) (i : ℕ) → length xs ≤ i → All P (take i xs) → All P xs
no-more P xs i high all = subst (All P) (take_all i xs high) all

pub by-recursion : {A : Type 0} (P : A → Type 0) (xs : List A) → All P xs → AllByRecursion P xs
by-recursion P [] all = tt
by-recursion P (x ∷ xs) all = (all 0 x (omega arith), by-recursion P xs (λ i d low. all (suc i) d (omega (arith, low))))

-- the same of all elements, told from the first on
pub each-one : {A : Type 0} (P : A → Type 0) (xs : List A) (i : ℕ) → length xs ≤ i → All P (take i xs) → AllByRecursion P xs
each-one P xs i high all = by-recursion P xs (no-more P xs i high all)
