-- The moments of media errors, the oldest first in the table, the latest first in the state.
use Rattle.std.proofs.Common.{◌≡◌, ◌≢◌, ℕ, ◌+◌, ◌-◌, ◌<◌, ◌≤◌, List, length, get_or, reverse, sym, ◌∙◌, ap, arith, ⊎_elim, subst}
use Rattle.std.specs.List.{Contains}
use Rattle.std.proofs.Math.Nat.{eq-or-lt_of_le}
use Rattle.std.proofs.lemmas.List.{get_or-reverse, get_or_default, length-reverse}

-- none of the first is this moment
abbrev pub OthersBefore : List ℕ → ℕ → ℕ → Type 0
OthersBefore xs moment n = (i : ℕ) → i < n → get_or xs i 0 ≢ moment

pub others_next : (xs : List ℕ) (moment n : ℕ) → get_or xs n 0 ≢ moment → OthersBefore xs moment n → OthersBefore xs moment (n + 1)
others_next xs moment n other before i below =
    let within : i ≤ n = omega arith in
    ⊎_elim
    (λ (is : i ≡ n). subst (λ (k : ℕ). get_or xs k 0 ≢ moment) (sym is) other)
    (λ (lt : i < n). before i lt)
    (eq-or-lt_of_le within)

pub is_new : (xs : List ℕ) (moment n : ℕ) → length xs ≤ n → OthersBefore xs moment n → Contains (reverse xs) moment → ⊥
is_new xs moment n all others has =
    let len : length (reverse xs) ≡ length xs = length-reverse xs in
    let below : has.0 < length xs = omega (arith, has.1) in
    let at : get_or xs (length xs - 1 - has.0) moment ≡ moment = sym (get_or-reverse xs has.0 moment below) ∙ has.2 in
    let place : length xs - 1 - has.0 < length xs = omega arith in
    others (length xs - 1 - has.0) (omega arith) (get_or_default xs (length xs - 1 - has.0) 0 moment place ∙ at)

pub is_known : (xs : List ℕ) (moment i : ℕ) → i < length xs → get_or xs i 0 ≡ moment → Contains (reverse xs) moment
is_known xs moment i below is =
    let len : length (reverse xs) ≡ length xs = length-reverse xs in
    let k : ℕ = length xs - 1 - i in
    let low : k < length xs = omega arith in
    let back : length xs - 1 - k ≡ i = omega arith in
    let at : get_or (reverse xs) k moment ≡ get_or xs (length xs - 1 - k) moment = get_or-reverse xs k moment low in
    (k, omega arith, at ∙ ap (λ (n : ℕ). get_or xs n moment) back ∙ get_or_default xs i moment 0 below ∙ is)
