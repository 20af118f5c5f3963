-- Bytes are a word over and over where they stay the same when they are shifted by the word.
use Rattle.std.proofs.Common.{◌≡◌, ℕ, zero, suc, ◌+◌, ◌-◌, ◌*◌, ◌/◌, ◌%◌, ◌<◌, ◌≤◌, false, List, ◌++◌, length, take, drop, sym, ap, ◌∙◌, append_assoc, arith, ◌==◌}
use Rattle.std.specs.Prelude.{bytes_eq}
use Rattle.std.proofs.lemmas.List.{nil_from_length, append-nil, length-take-le, length-drop, take-append-drop}
use Rattle.std.proofs.Math.Seq.{take-append_seam, drop-append_seam, take-append-add}
use Rattle.fdp_base.specs.Pattern.{repeated}
use Rattle.fdp_base.proofs.Repeating.{length_repeated}
use Rattle.fdp_trace.proofs.Printed.{bytes_differ, bytes_same, empty_eq}

repeated_behind : (k : ℕ) (w : List ℕ) → repeated (suc k) w ≡ w ++ repeated k w
unfolding repeated
repeated_behind zero w = sym (append-nil w)
repeated_behind (suc k) w = ap (λ (x : List ℕ). x ++ w) (repeated_behind k w) ∙ append_assoc w (repeated k w) w

repeated_before : (k : ℕ) (w : List ℕ) → take (k * length w) (repeated (suc k) w) ≡ repeated k w
unfolding repeated
repeated_before k w = ap (λ (n : ℕ). take n (repeated k w ++ w)) (sym (length_repeated k w)) ∙ take-append_seam (repeated k w) w

-- what stays the same behind a word, shifted by it, is the word over and over
shifted : (k : ℕ) (w ys : List ℕ) → length ys ≡ k * length w → ys ≡ take (k * length w) (w ++ ys) → ys ≡ repeated k w
unfolding repeated
shifted zero w ys len same = nil_from_length ys (omega (arith, len))
shifted (suc k) w ys len same =
    let zs : List ℕ = take (k * length w) ys in
    let size : suc k * length w ≡ length w + k * length w = omega arith in
    let cut : ys ≡ w ++ zs = same ∙ ap (λ (n : ℕ). take n (w ++ ys)) size ∙ take-append-add w ys (k * length w) in
    let short : length zs ≡ k * length w = length-take-le (k * length w) ys (omega (arith, len, size)) in
    cut ∙ ap (λ (x : List ℕ). w ++ x) (shifted k w zs short (ap (take (k * length w)) cut)) ∙ sym (repeated_behind k w)

pub is_shifted : (xs tail front : List ℕ) → 4 ≤ length xs → length xs % 4 ≡ 0 → tail ≡ drop 4 xs → front ≡ take (length xs - 4) xs → bytes_eq tail front ≡ bytes_eq xs (repeated (length xs / 4) (take 4 xs))
is_shifted xs tail front long whole is_tail is_front =
    let w : List ℕ = take 4 xs in
    let k : ℕ = length xs / 4 - 1 in
    let four : length w ≡ 4 = length-take-le 4 xs long in
    let count : length xs / 4 ≡ suc k = omega arith in
    let size : length xs - 4 ≡ k * length w = rw four (omega arith) in
    let cut : xs ≡ w ++ drop 4 xs = sym (take-append-drop 4 xs) in
    let rest : length (drop 4 xs) ≡ k * length w = length-drop 4 xs ∙ size in
    let before : front ≡ take (k * length w) xs = is_front ∙ ap (λ (n : ℕ). take n xs) size in
    let behind : drop 4 xs ≡ drop (length w) xs = ap (λ (n : ℕ). drop n xs) (sym four) in
    bytes_same tail front xs (repeated (length xs / 4) w)
    (λ e. cut ∙ ap (λ (x : List ℕ). w ++ x) (shifted k w (drop 4 xs) rest (sym is_tail ∙ e ∙ before ∙ ap (take (k * length w)) cut)) ∙ sym (repeated_behind k w) ∙ ap (λ (n : ℕ). repeated n w) (sym count))
    (λ e.
    let all : xs ≡ repeated (suc k) w = e ∙ ap (λ (n : ℕ). repeated n w) count in
    is_tail ∙ behind ∙ ap (drop (length w)) (all ∙ repeated_behind k w) ∙ drop-append_seam w (repeated k w)
    ∙ sym (before ∙ ap (take (k * length w)) all ∙ repeated_before k w))

-- bytes that no words fill are not a word over and over
pub is_uneven : (xs : List ℕ) → 4 ≤ length xs → (length xs % 4 ≡ 0 → ⊥) → false ≡ bytes_eq xs (repeated (length xs / 4) (take 4 xs))
is_uneven xs long uneven =
    let four : length (take 4 xs) ≡ 4 = length-take-le 4 xs long in
    sym (bytes_differ xs (repeated (length xs / 4) (take 4 xs)) (λ e.
    let len : length xs ≡ length xs / 4 * length (take 4 xs) = ap length e ∙ length_repeated (length xs / 4) (take 4 xs) in
    let even : length xs ≡ length xs / 4 * 4 = len ∙ ap (λ (n : ℕ). length xs / 4 * n) four in
    uneven (omega (arith, even))))

-- fewer bytes than a word are a word over and over where there are none
pub is_none : (xs : List ℕ) → length xs < 4 → (length xs == 0) ≡ bytes_eq xs (repeated (length xs / 4) (take 4 xs))
unfolding repeated
is_none xs short =
    let none : length xs / 4 ≡ 0 = omega arith in
    empty_eq xs ∙ sym (ap (λ (n : ℕ). bytes_eq xs (repeated n (take 4 xs))) none)
