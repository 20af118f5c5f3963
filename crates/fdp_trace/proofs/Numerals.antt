-- The number that a word spells, as the relation and as the function have it.
use Rattle.std.proofs.Common.{◌≡◌, ℕ, zero, suc, ◌<◌, Bool, true, false, not, ◌&&◌, ◌||◌, ◌==◌, nat_lt, List, [], ◌∷◌, ◌++◌, length, drop, Option, Some, None, refl, sym, ap, subst, ◌∙◌, arith, inl, inr}
use Rattle.std.specs.Prelude.{codes, is_none, slice_index}
use Rattle.std.specs.List.{list_all}
use Rattle.std.specs.Char.{is_ascii_digit, is_ascii_hexdigit}
use Rattle.std.proofs.lemmas.Bool.{cases_Bool}
use Rattle.std.proofs.lemmas.Bool.Decides.{nat_tests}
use Rattle.fdp_trace.specs.Numbers.{value_of, IsHexadecimal, IsNumber}
use Rattle.fdp_trace.specs.Reader.NumberOf.{is_decimal, is_hexadecimal, number_of}

decimal_tests : (len first : ℕ) (digits : Bool) → 0 < len → digits ≡ true → (first ≡ 48 → len ≡ 1) → (not (len == 0) && digits && ((len == 1) || not (first == 48))) ≡ true
decimal_tests zero first digits some e lead = absurd (omega arith)
decimal_tests (suc zero) first digits some e lead = rw e refl
decimal_tests (suc (suc len)) first digits some e lead =
    let other : (first == 48) ≡ false = grind (arith, nat_tests, lead) in
    rw (e, other) (grind (arith, nat_tests))

decimal_found : (len first : ℕ) (digits : Bool) → (not (len == 0) && digits && ((len == 1) || not (first == 48))) ≡ true → (0 < len) × (digits ≡ true) × (first ≡ 48 → len ≡ 1)
decimal_found zero first digits e = absurd cc
decimal_found (suc zero) first true e = (omega arith, refl, λ z. refl)
decimal_found (suc len) first false e = absurd (grind (arith, nat_tests))
decimal_found (suc (suc len)) first true e = (omega arith, refl, λ z. absurd (grind (arith, nat_tests)))

no_hexadecimal : (digits : List ℕ) → is_decimal (codes "0x" ++ digits) ≡ false
no_hexadecimal digits = grind (arith, nat_tests)

hexadecimal_test : (digits : List ℕ) → 0 < length digits → list_all is_ascii_hexdigit digits ≡ true → is_hexadecimal (codes "0x" ++ digits) ≡ true
hexadecimal_test digits some all =
    let long : nat_lt 2 (suc (suc (length digits))) ≡ true = grind (arith, nat_tests) in
    rw (long, all) refl

pub number_is : (word : List ℕ) (n : ℕ) → IsNumber word n → number_of word ≡ Some n
unfolding number_of
number_is word n (inl d) =
    let test : is_decimal word ≡ true = decimal_tests (length word) (slice_index word 0) (list_all is_ascii_digit word) d.some d.digits d.lead in
    rw test (ap Some d.value)
number_is word n (inr h) =
    let test = hexadecimal_test h.digits h.some h.hexadecimal in
    let whole : number_of (codes "0x" ++ h.digits) ≡ Some n = rw (no_hexadecimal h.digits, test) (ap Some h.value) in
    ap number_of h.whole ∙ whole

hexadecimal_found : (word : List ℕ) → is_hexadecimal word ≡ true → IsHexadecimal word (value_of 16 (drop 2 word))
hexadecimal_found [] e = absurd cc
hexadecimal_found (a ∷ []) e = absurd cc
hexadecimal_found (a ∷ b ∷ []) e = absurd cc
hexadecimal_found (a ∷ b ∷ c ∷ digits) e =
    let a-is : a ≡ 48 = grind (arith, nat_tests) in
    let b-is : b ≡ 120 = grind (arith, nat_tests) in
    record {
      digits = c ∷ digits;
      whole = rw (a-is, b-is) refl;
      some = omega arith;
      hexadecimal = grind (arith, nat_tests);
      value = refl;
    }

abbrev pub value : Option ℕ → ℕ
value (Some n) = n
value None = 0

-- a word with a number has this one
pub number_found : (word : List ℕ) → is_none (number_of word) ≡ false → IsNumber word (value (number_of word))
unfolding number_of
number_found word e = elim (cases_Bool (is_decimal word)) [
  | inl yes' ↦
      let found = decimal_found (length word) (slice_index word 0) (list_all is_ascii_digit word) yes' in
      let is : number_of word ≡ Some (value_of 10 word) = rw yes' refl in
      subst (λ (o : Option ℕ). IsNumber word (value o)) (sym is) (inl (record { some = found.0; digits = found.1; lead = found.2; value = refl }))
  | inr no' ↦ elim (cases_Bool (is_hexadecimal word)) [
    | inl hex ↦
        let is : number_of word ≡ Some (value_of 16 (drop 2 word)) = rw (no', hex) refl in
        subst (λ (o : Option ℕ). IsNumber word (value o)) (sym is) (inr (hexadecimal_found word hex))
    | inr none ↦ let is : number_of word ≡ None = rw (no', none) refl in let none-is : is_none (number_of word) ≡ true = ap is_none is in absurd cc
  ]
]
