-- The number that a word spells, computed.
use Rattle.std.specs.Prelude.{ℕ, nat_lt, Bool, not, ◌&&◌, ◌||◌, ◌==◌, if◌then◌else◌, List, length, drop, slice_index, Option, Some, None}
use Rattle.std.specs.List.{list_all}
use Rattle.std.specs.Char.{is_ascii_digit, is_ascii_hexdigit}
use Rattle.fdp_trace.specs.Numbers.{value_of}

-- one or more decimal digits, the first not zero but in 0 itself
abbrev pub is_decimal : List ℕ → Bool
is_decimal word = not (length word == 0) && list_all is_ascii_digit word && ((length word == 1) || not (slice_index word 0 == 48))

-- 0x and one or more hexadecimal digits
abbrev pub is_hexadecimal : List ℕ → Bool
is_hexadecimal word =
    nat_lt 2 (length word) && (slice_index word 0 == 48) && (slice_index word 1 == 120) && list_all is_ascii_hexdigit (drop 2 word)

-- the number that a word spells
unfoldable pub number_of : List ℕ → Option ℕ
number_of word =
    if is_decimal word then Some (value_of 10 word) else (if is_hexadecimal word then Some (value_of 16 (drop 2 word)) else None)
