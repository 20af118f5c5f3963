-- Hexadecimal digits tell their number.
use Rattle.std.proofs.Common.{◌≡◌, ℕ, zero, suc, ◌+◌, ◌*◌, ◌/◌, ◌%◌, ◌^◌, ◌<◌, ◌≤◌, true, nat_le, List, [], ◌∷◌, ◌++◌, length, take, drop, Ok, refl, sym, ap, ◌∙◌, arith}
use Rattle.std.specs.Char.{digit_value}
use Rattle.std.proofs.lemmas.Bool.Decides.{nat_tests}
use Rattle.std.proofs.lemmas.List.{length-append}
use Rattle.std.proofs.lemmas.List.Sums.{fold-append}
use Rattle.std.proofs.Math.Seq.{take-append_seam, drop-append_seam}
use Rattle.fdp_base.specs.Text.{digit, hex, hex_bytes}
use Rattle.fdp_trace.specs.Numbers.{value_of}
use Rattle.fdp_prints.specs.Told.{AreBytes}
use Rattle.fdp_prints.specs.Reader.{bytes_in, hex_number, hex_within}

digit-back : (n : ℕ) → n < 16 → digit_value (digit n) ≡ n
digit-back n lt = grind (arith, nat_tests)

-- a number that so many digits hold
abbrev pub FitsDigits : ℕ → ℕ → Type 0
FitsDigits zero n = n ≡ 0
FitsDigits (suc k) n = FitsDigits k (n / 16)

pub hex-back : (k n : ℕ) → FitsDigits k n → value_of 16 (hex k n) ≡ n
unfolding hex
hex-back zero n fits = sym fits
hex-back (suc k) n fits =
    fold-append (λ (m : ℕ) (digit : ℕ). 16 * m + digit_value digit) 0 (hex k (n / 16)) (digit (n % 16) ∷ [])
    ∙ omega (arith, hex-back k (n / 16) fits, digit-back (n % 16) (omega arith))

pub dword-fits : (n : ℕ) → n < 2 ^ 32 → FitsDigits 8 n
dword-fits n lt = omega (arith, lt)

pub byte-fits : (n : ℕ) → n < 256 → FitsDigits 2 n
byte-fits n lt = omega (arith, lt)

pub digit-fits : (n : ℕ) → n < 16 → FitsDigits 1 n
digit-fits n lt = omega (arith, lt)

-- digits of a number up to a bound are within it
pub number-hex : (k n : ℕ) → FitsDigits k n → n < 2 ^ 64 → hex_number (hex k n) ≡ n
number-hex k n fits lt = omega (arith, hex-back k n fits, lt)

pub within-hex : (k n high : ℕ) → FitsDigits k n → n < 2 ^ 64 → n ≤ high → hex_within high (hex k n) ≡ Ok n
unfolding hex_within
within-hex k n high fits lt le =
    let test : nat_le n high ≡ true = grind (arith, nat_tests) in
    let is = number-hex k n fits lt in
    rw (is, test) refl

pub length-hex : (k n : ℕ) → length (hex k n) ≡ k
unfolding hex
length-hex zero n = refl
length-hex (suc k) n = omega (arith, length-append (hex k (n / 16)) (digit (n % 16) ∷ []), length-hex k (n / 16))

-- ---- bytes

first-byte : (n : ℕ) (xs : List ℕ) → n < 256 → hex_number (take 2 (hex 2 n ++ xs)) % 256 ≡ n
first-byte n xs lt =
    let front : take 2 (hex 2 n ++ xs) ≡ hex 2 n = ap (λ (k : ℕ). take k (hex 2 n ++ xs)) (sym (length-hex 2 n)) ∙ take-append_seam (hex 2 n) xs in
    let is : hex_number (take 2 (hex 2 n ++ xs)) ≡ n = ap hex_number front ∙ number-hex 2 n (byte-fits n lt) (omega (arith, lt)) in
    omega (arith, is, lt)

other-bytes : (n : ℕ) (xs : List ℕ) → drop 2 (hex 2 n ++ xs) ≡ xs
other-bytes n xs = ap (λ (k : ℕ). drop k (hex 2 n ++ xs)) (sym (length-hex 2 n)) ∙ drop-append_seam (hex 2 n) xs

pub bytes-back : (x : List ℕ) → AreBytes x → bytes_in (length x) (hex_bytes x) ≡ x
unfolding bytes_in
bytes-back [] h = refl
bytes-back (b ∷ bs) h =
    ap (λ (n : ℕ). n ∷ bytes_in (length bs) (drop 2 (hex 2 b ++ hex_bytes bs))) (first-byte b (hex_bytes bs) h.0)
    ∙ ap (λ (t : List ℕ). b ∷ bytes_in (length bs) t) (other-bytes b (hex_bytes bs))
    ∙ ap (λ (t : List ℕ). b ∷ t) (bytes-back bs h.1)

pub length-hex_bytes : (x : List ℕ) → length (hex_bytes x) ≡ 2 * length x
length-hex_bytes [] = refl
length-hex_bytes (b ∷ bs) = omega (arith, length-append (hex 2 b) (hex_bytes bs), length-hex 2 b, length-hex_bytes bs)
