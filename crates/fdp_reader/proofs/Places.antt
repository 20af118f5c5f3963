-- What stands before a place, and behind it.
use Rattle.std.proofs.Common.{◌≡◌, ℕ, ◌+◌, ◌-◌, Bool, List, [], length, take, drop, sym, ap, ◌∙◌, arith}
use Rattle.std.specs.List.{before_first, after_first, position_or_len}
use Rattle.std.proofs.lemmas.List.{nil_from_length, length-drop, take_all}
use Rattle.std.proofs.lemmas.List.Sums.{position_or_len_is}
use Rattle.fdp_trace.specs.Reader.FrontOf.{IsFront}

place-is : (test : ℕ → Bool) (bytes : List ℕ) (n : ℕ) → IsFront test bytes n → position_or_len test bytes ≡ n
place-is test bytes n f = position_or_len_is test bytes n 0 f.within f.before f.there

pub before-place : (test : ℕ → Bool) (bytes : List ℕ) (n : ℕ) → IsFront test bytes n → take n bytes ≡ before_first test bytes
before-place test bytes n f = ap (λ (k : ℕ). take k bytes) (sym (place-is test bytes n f))

pub after-end : (test : ℕ → Bool) (bytes : List ℕ) (n : ℕ) → IsFront test bytes n → n ≡ length bytes → [] ≡ after_first test bytes
after-end test bytes n f end =
    sym (nil_from_length (after_first test bytes) (ap (λ (k : ℕ). length (drop (k + 1) bytes)) (place-is test bytes n f) ∙ length-drop (n + 1) bytes ∙ omega (arith, end)))

pub after-place : (test : ℕ → Bool) (bytes : List ℕ) (n : ℕ) → IsFront test bytes n → take (length bytes - (n + 1)) (drop (n + 1) bytes) ≡ after_first test bytes
after-place test bytes n f =
    take_all (length bytes - (n + 1)) (drop (n + 1) bytes) (omega (arith, length-drop (n + 1) bytes))
    ∙ ap (λ (k : ℕ). drop (k + 1) bytes) (sym (place-is test bytes n f))
