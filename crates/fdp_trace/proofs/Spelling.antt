-- Words that are printed: decimal numbers, and words with spaces between them.
use Rattle.std.proofs.Common.{◌≡◌, ℕ, zero, suc, ◌+◌, ◌-◌, ◌*◌, ◌/◌, ◌%◌, ◌^◌, ◌<◌, ◌≤◌, true, false, List, [], ◌∷◌, ◌++◌, length, get_or, drop, refl, sym, ap, ◌∙◌, arith, inl, inr}
use Rattle.std.specs.Prelude.{decimal}
use Rattle.std.specs.List.{list_all, AllByRecursion}
use Rattle.std.specs.Char.{digit_value, is_ascii_digit}
use Rattle.std.specs.Str.{IsAscii}
use Rattle.std.proofs.lemmas.Bool.{cases_lt}
use Rattle.std.proofs.lemmas.Bool.Decides.{nat_tests}
use Rattle.std.proofs.lemmas.List.{append-nil, length-append, get_or_append_left, get_or-append_right}
use Rattle.std.proofs.lemmas.List.Folds.{list_all-append}
use Rattle.std.proofs.lemmas.List.Sums.{fold-append}
use Rattle.std.proofs.lemmas.Fmt.{decimal_by_steps, IsAscii-decimal}
use Rattle.std.proofs.lemmas.Str.{IsAscii-append}
use Rattle.std.proofs.Math.Seq.{take-append_seam, drop-append_seam}
use Rattle.fdp_base.specs.Text.{spaced}
use Rattle.fdp_trace.specs.Words.{is_blank, words_of}
use Rattle.fdp_trace.specs.Reader.FrontOf.{IsFront}
use Rattle.fdp_trace.specs.Numbers.{value_of, IsNumber}
use Rattle.fdp_trace.specs.Printer.{spaced_behind}
use Rattle.fdp_trace.proofs.Cutting.{words_cut, words_skip, no_words}

-- ---- words

pub record IsWord (w : List ℕ) : Type 0 where
  pub some : 0 < length w
  pub plain : (k : ℕ) → k < length w → is_blank (get_or w k 0) ≡ false
  pub ascii : IsAscii w

pub spaced_is : (w : List ℕ) (ws : List (List ℕ)) → spaced (w ∷ ws) ≡ w ++ spaced_behind ws
spaced_is w [] = sym (append-nil w)
spaced_is w (next ∷ ws) = ap (λ (t : List ℕ). w ++ 32 ∷ t) (spaced_is next ws)

-- a word in front of nothing or of a space
abbrev pub BeginsBlank : List ℕ → Type 0
BeginsBlank [] = Unit {0}
BeginsBlank (b ∷ bs) = is_blank b ≡ true

blank_first : (tail : List ℕ) → BeginsBlank tail → 0 < length tail → is_blank (get_or tail 0 0) ≡ true
blank_first [] begins some = absurd (omega arith)
blank_first (b ∷ bs) begins some = begins

word_front : (w tail : List ℕ) → IsWord w → BeginsBlank tail → IsFront is_blank (w ++ tail) (length w)
word_front w tail word begins = record {
  within = omega (arith, length-append w tail);
  before = λ k lt. ap is_blank (get_or_append_left w tail 0 k lt) ∙ word.plain k lt;
  there = λ lt.
      let e : get_or (w ++ tail) (length w) 0 ≡ get_or tail 0 0 = get_or-append_right w tail (length w) (length w) 0 refl (omega arith) ∙ ap (λ (k : ℕ). get_or tail k 0) (omega arith) in
      ap is_blank e ∙ blank_first tail begins (omega (arith, length-append w tail));
}

word_cut : (w tail : List ℕ) → IsWord w → BeginsBlank tail → words_of (w ++ tail) ≡ w ∷ words_of tail
word_cut w tail word begins =
    words_cut (w ++ tail) (length w) (word_front w tail word begins) word.some
    ∙ ap (λ (x : List ℕ). x ∷ words_of (drop (length w) (w ++ tail))) (take-append_seam w tail)
    ∙ ap (λ (x : List ℕ). w ∷ words_of x) (drop-append_seam w tail)

begins_blank : (ws : List (List ℕ)) → BeginsBlank (spaced_behind ws)
begins_blank [] = tt
begins_blank (w ∷ ws) = refl

pub words_back : (w : List ℕ) (ws : List (List ℕ)) → IsWord w → AllByRecursion IsWord ws → words_of (w ++ spaced_behind ws) ≡ w ∷ ws
words_back w [] word others = word_cut w [] word tt ∙ ap (λ (x : List (List ℕ)). w ∷ x) no_words
words_back w (next ∷ ws) word others =
    word_cut w (spaced_behind (next ∷ ws)) word refl
    ∙ ap (λ (x : List (List ℕ)). w ∷ x) (words_skip 32 (next ++ spaced_behind ws) refl ∙ words_back next ws others.0 others.1)

space_ascii : IsAscii (32 ∷ [])
space_ascii zero = omega arith
space_ascii (suc i) = omega arith

pub ascii_behind : (ws : List (List ℕ)) → AllByRecursion IsWord ws → IsAscii (spaced_behind ws)
ascii_behind [] words = λ i. omega arith
ascii_behind (w ∷ ws) words = IsAscii-append (32 ∷ w) (spaced_behind ws) (IsAscii-append (32 ∷ []) w space_ascii words.0.ascii) (ascii_behind ws words.1)

-- ---- decimal numbers

pub record IsNumeral (n : ℕ) (ds : List ℕ) : Type 0 where
  pub some : 0 < length ds
  pub digits : list_all is_ascii_digit ds ≡ true
  pub plain : (k : ℕ) → k < length ds → is_blank (get_or ds k 0) ≡ false
  pub value : value_of 10 ds ≡ n
  pub lead : 0 < n → get_or ds 0 0 ≡ 48 → ⊥
  pub short : n ≡ 0 → length ds ≡ 1

digit_value_of : (d : ℕ) → d < 10 → digit_value (48 + d) ≡ d
digit_value_of d lt = grind (arith, nat_tests)

is_digit_of : (d : ℕ) → d < 10 → is_ascii_digit (48 + d) ≡ true
is_digit_of d lt = grind (arith, nat_tests)

no_blank : (d : ℕ) → d < 10 → is_blank (48 + d) ≡ false
no_blank d lt = grind (arith, nat_tests)

one_digit : (n : ℕ) → n < 10 → IsNumeral n ((48 + n) ∷ [])
one_digit n lt = record {
  some = omega arith;
  digits = rw (is_digit_of n lt) refl;
  plain = λ k k-lt. let first : k ≡ 0 = omega arith in rw first (no_blank n lt);
  value = omega (arith, digit_value_of n lt);
  lead = λ positive e. omega arith;
  short = λ e. refl;
}

last_digit : (n : ℕ) (ds : List ℕ) → IsNumeral (n / 10) ds → (k : ℕ) → k < length (ds ++ ((48 + n % 10) ∷ [])) → is_blank (get_or (ds ++ ((48 + n % 10) ∷ [])) k 0) ≡ false
last_digit n ds before k lt =
    elim (cases_lt k (length ds)) [
      | inl inside ↦ ap is_blank (get_or_append_left ds ((48 + n % 10) ∷ []) 0 k inside) ∙ before.plain k inside
      | inr past ↦
          let zero-is : k - length ds ≡ zero = omega (arith, length-append ds ((48 + n % 10) ∷ [])) in
          let e : get_or (ds ++ ((48 + n % 10) ∷ [])) k 0 ≡ 48 + n % 10 = get_or-append_right ds ((48 + n % 10) ∷ []) (length ds) k 0 refl past ∙ ap (λ (j : ℕ). get_or ((48 + n % 10) ∷ []) j 0) zero-is in
          ap is_blank e ∙ no_blank (n % 10) (omega arith)
    ]

more_digits : (n : ℕ) (ds : List ℕ) → 10 ≤ n → IsNumeral (n / 10) ds → IsNumeral n (ds ++ ((48 + n % 10) ∷ []))
more_digits n ds le before =
    let c = 48 + n % 10 in
    let first : get_or (ds ++ c ∷ []) 0 0 ≡ get_or ds 0 0 = get_or_append_left ds (c ∷ []) 0 0 before.some in
    let all : list_all is_ascii_digit (ds ++ c ∷ []) ≡ true = list_all-append is_ascii_digit ds (c ∷ []) ∙ rw (before.digits, is_digit_of (n % 10) (omega arith)) refl in
    let sum : 10 * value_of 10 ds + digit_value c ≡ n = omega (arith, before.value, digit_value_of (n % 10) (omega arith)) in
    record {
      some = omega (arith, length-append ds (c ∷ []));
      digits = all;
      plain = last_digit n ds before;
      value = fold-append (λ (m : ℕ) (digit : ℕ). 10 * m + digit_value digit) 0 ds (c ∷ []) ∙ sum;
      lead = λ positive e. before.lead (omega arith) (sym first ∙ e);
      short = λ e. absurd (omega arith);
    }

pub numeral : (n : ℕ) → n < 2 ^ 64 → IsNumeral n (decimal n)
numeral n lt = decimal_by_steps IsNumeral one_digit more_digits n lt

pub number_word : (n : ℕ) → n < 2 ^ 64 → IsWord (decimal n)
number_word n lt = let d = numeral n lt in record { some = d.some; plain = d.plain; ascii = IsAscii-decimal n lt }

lead_zero : (n len first : ℕ) → (n ≡ 0 → len ≡ 1) → (0 < n → first ≡ 48 → ⊥) → first ≡ 48 → len ≡ 1
lead_zero zero len first short lead e = short refl
lead_zero (suc n) len first short lead e = absurd (lead (omega arith) e)

-- a decimal number spells its number
pub number_back : (n : ℕ) → n < 2 ^ 64 → IsNumber (decimal n) n
number_back n lt =
    let d = numeral n lt in
    inl (record { some = d.some; digits = d.digits; lead = lead_zero n (length (decimal n)) (get_or (decimal n) 0 0) d.short d.lead; value = d.value })
