-- The numbers of a line.
use Rattle.std.specs.Prelude.{◌≡◌, ◌⊎◌, ◌<◌, ◌++◌, codes, ℕ, ◌+◌, ◌*◌, true, List, length, fold, slice_index}
use Rattle.std.specs.List.{list_all}
use Rattle.std.specs.Char.{digit_value, is_ascii_digit, is_ascii_hexdigit}

-- the number that digits spell
abbrev pub value_of : ℕ → List ℕ → ℕ
value_of radix digits = fold (λ n digit. radix * n + digit_value digit) 0 digits

-- decimal digits, the first not zero but in 0 itself
pub record IsDecimal (word : List ℕ) (n : ℕ) : Type 0 where
  pub some : 0 < length word
  pub digits : list_all is_ascii_digit word ≡ true
  pub lead : slice_index word 0 ≡ 48 → length word ≡ 1
  pub value : value_of 10 word ≡ n

-- 0x and hexadecimal digits of either case
pub record IsHexadecimal (word : List ℕ) (n : ℕ) : Type 0 where
  pub digits : List ℕ
  pub whole : word ≡ codes "0x" ++ digits
  pub some : 0 < length digits
  pub hexadecimal : list_all is_ascii_hexdigit digits ≡ true
  pub value : value_of 16 digits ≡ n

-- a word spells a number
abbrev pub IsNumber : List ℕ → ℕ → Type 0
IsNumber word n = IsDecimal word n ⊎ IsHexadecimal word n
