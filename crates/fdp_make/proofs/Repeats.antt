-- Whether bytes are a word of four bytes over and over.
use Rattle.std.proofs.Common.{◌≡◌, ◌≢◌, ℕ, ◌-◌, ◌*◌, ◌/◌, true, false, List, length, take, drop, refl, sym, ◌∙◌, ap, arith, bytes_eq}
use Rattle.std.proofs.lemmas.Bool.{both_ways}
use Rattle.std.proofs.lemmas.Slice.Eq.{bytes_eq-Decides}
use Rattle.std.proofs.lemmas.List.{nil_from_length}
use Rattle.fdp_base.specs.Pattern.{repeated}
use Rattle.fdp_base.proofs.Repeating.{front_repeated, length_repeated}
use Rattle.fdp_trace.proofs.Printed.{bytes_differ, bytes_same}
use Rattle.fdp_trace.proofs.Repeats.{is_shifted}

pub equal : (xs ys : List ℕ) → xs ≡ ys → true ≡ bytes_eq xs ys
equal xs ys same = sym ((bytes_eq-Decides xs ys).1 same)

module _ (w : List ℕ) (four : length w ≡ 4) where
  pub other_length : (times : ℕ) (bytes : List ℕ) → length bytes ≢ 4 * times → false ≡ bytes_eq (repeated times w) bytes
  other_length times bytes other =
      sym (bytes_differ (repeated times w) bytes (λ same. other (omega (arith, ap length same, length_repeated times w, ap (λ (n : ℕ). times * n) four))))

  pub no_times : (times : ℕ) (bytes : List ℕ) → length bytes ≡ 4 * times → times ≡ 0 → true ≡ bytes_eq (repeated times w) bytes
  unfolding repeated
  no_times times bytes size none =
      equal (repeated times w) bytes (ap (λ (n : ℕ). repeated n w) none ∙ sym (nil_from_length bytes (omega (arith, size, none))))

  one_word : repeated 1 w ≡ w
  unfolding repeated
  one_word = refl

  first_word : (times : ℕ) → times ≢ 0 → take 4 (repeated times w) ≡ w
  first_word times some =
      let one : 4 ≡ 1 * length w = omega (arith, four) in
      ap (λ (n : ℕ). take n (repeated times w)) one ∙ front_repeated 1 times w (omega arith) ∙ one_word

  -- bytes that begin with something else
  pub other_start : (times : ℕ) (bytes front : List ℕ) → times ≢ 0 → front ≡ take 4 bytes → bytes_eq front w ≡ false → false ≡ bytes_eq (repeated times w) bytes
  other_start times bytes front some is other =
      sym (bytes_differ (repeated times w) bytes (λ same.
      both_ways (bytes_eq front w) other ((bytes_eq-Decides front w).1 (is ∙ ap (take 4) (sym same) ∙ first_word times some))))

  -- bytes that begin with the word are that word over and over where they are the same as themselves four bytes on
  pub same_start : (times : ℕ) (bytes front tail before : List ℕ) → length bytes ≡ 4 * times → times ≢ 0 → front ≡ take 4 bytes → bytes_eq front w ≡ true
      → tail ≡ drop 4 bytes → before ≡ take (length bytes - 4) bytes → bytes_eq tail before ≡ bytes_eq (repeated times w) bytes
  same_start times bytes front tail before size some is begins is_tail is_before =
      let start : take 4 bytes ≡ w = sym is ∙ (bytes_eq-Decides front w).0 begins in
      let count : length bytes / 4 ≡ times = omega (arith, size) in
      let all : repeated (length bytes / 4) (take 4 bytes) ≡ repeated times w = ap (λ (n : ℕ). repeated n (take 4 bytes)) count ∙ ap (repeated times) start in
      is_shifted bytes tail before (omega (arith, size)) (omega (arith, size)) is_tail is_before
      ∙ bytes_same bytes (repeated (length bytes / 4) (take 4 bytes)) (repeated times w) bytes (λ e. sym (e ∙ all)) (λ e. sym e ∙ sym all)
