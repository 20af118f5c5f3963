-- What stands before the first of a byte, and what stands behind it.
use Rattle.std.proofs.Common.{◌≡◌, ◌≢◌, ℕ, zero, suc, ◌+◌, ◌-◌, ◌<◌, false, List, [], ◌∷◌, ◌++◌, length, get_or, take, drop, refl, ap, ◌∙◌, arith, ne_eqb, eq-eqb}
use Rattle.std.specs.Prelude.{◌==◌}
use Rattle.std.specs.List.{AllByRecursion, before_first, after_first, position_or_len}
use Rattle.std.proofs.lemmas.List.{length-append, get_or_append_left, get_or-append_right}
use Rattle.std.proofs.lemmas.List.Sums.{position_or_len_is}
use Rattle.std.proofs.Math.Seq.{take-append_seam, drop-append-add}

-- none of these bytes is this one
abbrev pub HasNone : ℕ → List ℕ → Type 0
HasNone end bytes = AllByRecursion (λ (b : ℕ). b ≢ end) bytes

pub none-append : (end : ℕ) (x y : List ℕ) → HasNone end x → HasNone end y → HasNone end (x ++ y)
none-append end [] y hx hy = hy
none-append end (b ∷ bs) y hx hy = (hx.0, none-append end bs y hx.1 hy)

none-at : (end : ℕ) (x : List ℕ) → HasNone end x → (k : ℕ) → k < length x → (get_or x k 0 == end) ≡ false
none-at end [] h k lt = absurd (omega (arith, lt))
none-at end (b ∷ bs) h zero lt = ne_eqb b end h.0
none-at end (b ∷ bs) h (suc k) lt = none-at end bs h.1 k (omega (arith, lt))

place-is : (end : ℕ) (x y : List ℕ) → HasNone end x → position_or_len (λ b. b == end) (x ++ end ∷ y) ≡ length x
place-is end x y none =
    let first : length x - length x ≡ 0 = omega arith in
    let at : get_or (x ++ end ∷ y) (length x) 0 ≡ end = get_or-append_right x (end ∷ y) (length x) (length x) 0 refl (omega arith) ∙ ap (λ (k : ℕ). get_or (end ∷ y) k 0) first in
    position_or_len_is (λ b. b == end) (x ++ end ∷ y) (length x) 0 (omega (arith, length-append x (end ∷ y)))
    (λ k lt. ap (λ (b : ℕ). b == end) (get_or_append_left x (end ∷ y) 0 k lt) ∙ none-at end x none k lt)
    (λ lt. eq-eqb (get_or (x ++ end ∷ y) (length x) 0) end at)

pub before-is : (end : ℕ) (x y : List ℕ) → HasNone end x → before_first (λ b. b == end) (x ++ end ∷ y) ≡ x
before-is end x y none = ap (λ (n : ℕ). take n (x ++ end ∷ y)) (place-is end x y none) ∙ take-append_seam x (end ∷ y)

pub after-is : (end : ℕ) (x y : List ℕ) → HasNone end x → after_first (λ b. b == end) (x ++ end ∷ y) ≡ y
after-is end x y none = ap (λ (n : ℕ). drop (n + 1) (x ++ end ∷ y)) (place-is end x y none) ∙ drop-append-add x (end ∷ y) 1
