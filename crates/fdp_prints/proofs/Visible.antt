-- Bytes that show: no blank, no line feed, ASCII.
use Rattle.std.proofs.Common.{◌≡◌, ℕ, zero, suc, ◌+◌, ◌/◌, ◌%◌, ◌^◌, ◌<◌, Bool, true, false, ◌&&◌, List, [], ◌∷◌, ◌++◌, length, get_or, refl, arith, nat_lt}
use Rattle.std.specs.Prelude.{decimal}
use Rattle.std.specs.List.{AllByRecursion, list_all}
use Rattle.std.specs.Str.{IsAscii}
use Rattle.std.proofs.lemmas.Bool.Decides.{nat_tests}
use Rattle.std.proofs.lemmas.Fmt.{decimal_by_steps, decimal_nonempty}
use Rattle.fdp_base.specs.Text.{digit, hex, spaced}
use Rattle.fdp_trace.specs.Words.{is_blank}
use Rattle.fdp_trace.proofs.Spelling.{IsWord}
use Rattle.fdp_prints.proofs.Cutting.{HasNone, none-append}

abbrev pub Shows : ℕ → Type 0
Shows b = (32 < b) × (b < 127)

abbrev pub AllShow : List ℕ → Type 0
AllShow w = AllByRecursion Shows w

-- a word that shows
pub record IsShown (w : List ℕ) : Type 0 where
  pub some : 0 < length w
  pub shows : AllShow w

both_true : (a b : Bool) → (a && b) ≡ true → (a ≡ true) × (b ≡ true)
both_true true b e = (refl, e)
both_true false b e = absurd cc

shows_by_test : (b : ℕ) → (nat_lt 32 b && nat_lt b 127) ≡ true → Shows b
shows_by_test b e = let t = both_true (nat_lt 32 b) (nat_lt b 127) e in (grind (arith, nat_tests, t.0), grind (arith, nat_tests, t.1))

pub all_by_test : (w : List ℕ) → list_all (λ b. nat_lt 32 b && nat_lt b 127) w ≡ true → AllShow w
all_by_test [] e = tt
all_by_test (b ∷ bs) e = let t = both_true (nat_lt 32 b && nat_lt b 127) (list_all (λ b. nat_lt 32 b && nat_lt b 127) bs) e in (shows_by_test b t.0, all_by_test bs t.1)

-- a word of letters
pub tag : (w : List ℕ) → 0 < length w → list_all (λ b. nat_lt 32 b && nat_lt b 127) w ≡ true → IsShown w
tag w some e = record { some = some; shows = all_by_test w e }

pub show-append : (x y : List ℕ) → AllShow x → AllShow y → AllShow (x ++ y)
show-append [] y hx hy = hy
show-append (b ∷ bs) y hx hy = (hx.0, show-append bs y hx.1 hy)

pub show-decimal : (n : ℕ) → n < 2 ^ 64 → IsShown (decimal n)
show-decimal n lt = record {
  some = decimal_nonempty n lt;
  shows = decimal_by_steps (λ (n : ℕ) (ds : List ℕ). AllShow ds) (λ n small. ((omega (arith, small), omega (arith, small)), tt)) (λ n ds big h. show-append ds ((48 + n % 10) ∷ []) h ((omega arith, omega arith), tt)) n lt;
}

show-digit : (n : ℕ) → n < 16 → Shows (digit n)
show-digit n lt = (grind (arith, nat_tests), grind (arith, nat_tests))

pub show-hex : (k n : ℕ) → AllShow (hex k n)
unfolding hex
show-hex zero n = tt
show-hex (suc k) n = show-append (hex k (n / 16)) (digit (n % 16) ∷ []) (show-hex k (n / 16)) (show-digit (n % 16) (omega arith), tt)

-- ---- a word that shows is a word

blank_false : (b : ℕ) → 32 < b → is_blank b ≡ false
blank_false b lt = grind (arith, nat_tests)

no_blanks : (w : List ℕ) → AllShow w → (k : ℕ) → k < length w → is_blank (get_or w k 0) ≡ false
no_blanks [] h k lt = absurd (omega (arith, lt))
no_blanks (b ∷ bs) h zero lt = blank_false b h.0.0
no_blanks (b ∷ bs) h (suc k) lt = no_blanks bs h.1 k (omega (arith, lt))

all_ascii : (w : List ℕ) → AllShow w → IsAscii w
all_ascii [] h i = omega arith
all_ascii (b ∷ bs) h zero = omega (arith, h.0.1)
all_ascii (b ∷ bs) h (suc i) = all_ascii bs h.1 i

pub is_word : (w : List ℕ) → IsShown w → IsWord w
is_word w h = record { some = h.some; plain = no_blanks w h.shows; ascii = all_ascii w h.shows }

pub are_words : (ws : List (List ℕ)) → AllByRecursion IsShown ws → AllByRecursion IsWord ws
are_words [] h = tt
are_words (w ∷ ws) h = (is_word w h.0, are_words ws h.1)

-- ---- and has no line feed

pub no_feed : (w : List ℕ) → AllShow w → HasNone 10 w
no_feed [] h = tt
no_feed (b ∷ bs) h = (λ same. omega (arith, h.0.0, same), no_feed bs h.1)

pub no_feed_in : (ws : List (List ℕ)) → AllByRecursion IsShown ws → HasNone 10 (spaced ws)
no_feed_in [] h = tt
no_feed_in (w ∷ []) h = no_feed w h.0.shows
no_feed_in (w ∷ next ∷ ws) h = none-append 10 w (32 ∷ spaced (next ∷ ws)) (no_feed w h.0.shows) (λ same. omega (arith, same), no_feed_in (next ∷ ws) h.1)
