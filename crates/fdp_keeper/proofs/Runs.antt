-- New pages of copies in two runs, put one after another.
use Rattle.std.proofs.Common.{◌≡◌, ℕ, suc, ◌+◌, ◌≤◌, List, [], ◌∷◌, ◌++◌, map, take, drop, ap, sym, ◌∙◌, subst, arith, append_assoc}
use mathlib.Core.List.{append-nil}
use Rattle.fdp_base.specs.declared.entry.Copied.{Copied}
use Rattle.fdp_durability.specs.fdp_pages.Joined.{LieInOrder}
use Rattle.fdp_records.specs.declared.page_set.PageSet.{PageSet}
use Rattle.fdp_keeper.specs.Moves.{IsSetOf, LieInSome}

one-more : (n : ℕ) → 1 + n ≡ suc n
one-more n = omega arith

head-is : (x y : Copied) (xs ys : List Copied) → x ∷ xs ≡ y ∷ ys → x ≡ y
head-is x y xs ys e = cc

tail-is : (x y : Copied) (xs ys : List Copied) → x ∷ xs ≡ y ∷ ys → xs ≡ ys
tail-is x y xs ys e = cc

-- the copy that comes next does not lie in order: what is left is a run of its own
pub not-taken : (unit next : ℕ) (copy : Copied) (rest copies first last : List Copied) (other : ℕ) → copies ≡ copy ∷ rest → (copy.to.unit ≡ unit → next ≤ copy.to.page → ⊥) → copies ≡ first ++ last → LieInOrder unit next first → LieInOrder other 0 last → LieInSome copies
not-taken unit next copy rest copies [] last other is apart split a b = record { unit = other; lie = subst (LieInOrder other 0) (sym split) b }
not-taken unit next copy rest copies (x ∷ xs) last other is apart split a b =
    let same : copy ≡ x = head-is copy x rest (xs ++ last) (sym is ∙ split) in
    absurd (apart (ap (λ (y : Copied). y.to.unit) same ∙ a.0) (subst (λ (y : Copied). next ≤ y.to.page) (sym same) a.1))

-- it lies in order: what is left behind it is as before
pub taken : (unit next n : ℕ) (copy : Copied) (rest copies first last : List Copied) (other : ℕ) → copies ≡ copy ∷ rest → copy.to.unit ≡ unit → next ≤ copy.to.page
    → ((firsts lasts : List Copied) (v : ℕ) → rest ≡ firsts ++ lasts → LieInOrder unit (copy.to.page + 1) firsts → LieInOrder v 0 lasts → LieInSome (drop n rest))
    → copies ≡ first ++ last → LieInOrder unit next first → LieInOrder other 0 last → LieInSome (drop (1 + n) copies)
taken unit next n copy rest copies [] last other is here low more split a b =
    let all : last ≡ copy ∷ rest = sym split ∙ is in
    let lie : LieInOrder other 0 (copy ∷ rest) = subst (LieInOrder other 0) all b in
    let same : other ≡ unit = sym lie.0 ∙ here in
    subst LieInSome (ap (λ (k : ℕ). drop k (copy ∷ rest)) (sym (one-more n)) ∙ ap (drop (1 + n)) (sym is))
    (more rest [] other (sym (append-nil rest)) (subst (λ (u : ℕ). LieInOrder u (copy.to.page + 1) rest) same lie.2) tt)
taken unit next n copy rest copies (x ∷ xs) last other is here low more split a b =
    let same : copy ≡ x = head-is copy x rest (xs ++ last) (sym is ∙ split) in
    let behind : rest ≡ xs ++ last = tail-is copy x rest (xs ++ last) (sym is ∙ split) in
    subst LieInSome (ap (λ (k : ℕ). drop k (copy ∷ rest)) (sym (one-more n)) ∙ ap (drop (1 + n)) (sym is))
    (more xs last other behind (subst (λ (y : Copied). LieInOrder unit (y.to.page + 1) xs) (sym same) a.2) b)

pub put-one : (s : PageSet) (pages : List ℕ) (f : Copied → ℕ) (copy : Copied) (rest copies : List Copied) → copies ≡ copy ∷ rest → IsSetOf s ((pages ++ f copy ∷ []) ++ map f rest) → IsSetOf s (pages ++ map f copies)
put-one s pages f copy rest copies is h = subst (IsSetOf s) (append_assoc pages (f copy ∷ []) (map f rest) ∙ ap (λ (xs : List Copied). pages ++ map f xs) (sym is)) h

pub put-some : (s : PageSet) (pages : List ℕ) (f : Copied → ℕ) (n : ℕ) (copy : Copied) (rest copies : List Copied) → copies ≡ copy ∷ rest → IsSetOf s ((pages ++ f copy ∷ []) ++ map f (take n rest)) → IsSetOf s (pages ++ map f (take (1 + n) copies))
put-some s pages f n copy rest copies is h =
    subst (IsSetOf s)
    (append_assoc pages (f copy ∷ []) (map f (take n rest)) ∙ ap (λ (k : ℕ). pages ++ map f (take k (copy ∷ rest))) (sym (one-more n)) ∙ ap (λ (xs : List Copied). pages ++ map f (take (1 + n) xs)) (sym is)) h
