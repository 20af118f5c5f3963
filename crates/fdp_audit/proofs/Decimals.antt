-- What is written of a number is digits, however great it is.
use Rattle.std.proofs.Common.{◌≡◌, ℕ, zero, suc, ◌+◌, ◌/◌, ◌%◌, ◌<◌, ◌≤◌, Bool, true, false, List, [], ◌∷◌, ◌++◌, length, if◌then◌else◌, arith}
use Rattle.std.specs.Prelude.{decimal, ◌==◌}
use Rattle.std.specs.List.{AllByRecursion}
use Rattle.std.proofs.lemmas.Bool.Decides.{nat_tests}
use Rattle.std.specs.Fmt.{digit_glyph, digits, digits_onto}
use Rattle.fdp_prints.proofs.Visible.{AllShow, IsShown}
use Rattle.fdp_reader.specs.Form.{begins_with_digit}

abbrev IsDigit : ℕ → Type 0
IsDigit b = (48 ≤ b) × (b ≤ 57)

-- some digits
abbrev pub AreDigits : List ℕ → Type 0
AreDigits ds = (0 < length ds) × AllByRecursion IsDigit ds

glyph-digit : (n : ℕ) → IsDigit (digit_glyph false (n % 10))
glyph-digit n = let small : n % 10 < 10 = omega arith in (grind (arith, nat_tests, small), grind (arith, nat_tests, small))

onto-digits : (k n : ℕ) (acc : List ℕ) → AllByRecursion IsDigit acc → 0 < length acc + k → AreDigits (digits_onto k 10 false n acc)
onto-digits zero n acc h some = (omega (arith, some), h)
onto-digits (suc k) n acc h some = by (n / 10 == 0) (onto-digits k (n / 10) (digit_glyph false (n % 10) ∷ acc) (glyph-digit n, h) (omega arith)) where
  by : (b : Bool) → AreDigits (digits_onto k 10 false (n / 10) (digit_glyph false (n % 10) ∷ acc)) → AreDigits (if b then digit_glyph false (n % 10) ∷ acc else digits_onto k 10 false (n / 10) (digit_glyph false (n % 10) ∷ acc))
  by true rest = (omega arith, (glyph-digit n, h))
  by false rest = rest

pub decimal-digits : (n : ℕ) → AreDigits (decimal n)
unfolding digits
decimal-digits n = onto-digits 64 n [] tt (omega arith)

all-shows : (ds : List ℕ) → AllByRecursion IsDigit ds → AllShow ds
all-shows [] h = tt
all-shows (d ∷ ds) h = ((omega (arith, h.0.0), omega (arith, h.0.1)), all-shows ds h.1)

-- it shows
pub show-number : (n : ℕ) → IsShown (decimal n)
show-number n = let h = decimal-digits n in record { some = h.0; shows = all-shows (decimal n) h.1 }

first-digit : (ds more : List ℕ) → AreDigits ds → begins_with_digit (ds ++ more) ≡ true
first-digit [] more h = absurd (omega (arith, h.0))
first-digit (d ∷ ds) more h = let low = h.1.0.0 in let high = h.1.0.1 in grind (arith, nat_tests, low, high)

-- and what begins with it begins with a digit
pub decimal-first : (n : ℕ) (more : List ℕ) → begins_with_digit (decimal n ++ more) ≡ true
decimal-first n more = first-digit (decimal n) more (decimal-digits n)
