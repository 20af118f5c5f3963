-- The printed text, one part after the other.
use Rattle.std.proofs.Common.{◌≡◌, ℕ, zero, suc, ◌+◌, ◌-◌, ◌*◌, ◌/◌, ◌%◌, ◌<◌, ◌≤◌, Bool, true, false, List, [], ◌∷◌, ◌++◌, length, take, drop, refl, sym, ap, ◌∙◌, append_assoc, arith, ◌==◌, Result, Ok, Err, inl, inr, min}
use Rattle.std.specs.List.{flat_map}
use Rattle.std.specs.Prelude.{bytes_eq, OnOk}
use Rattle.std.proofs.lemmas.List.{take_all, nil_from_length, append-nil, length-drop}
use Rattle.std.proofs.Math.Seq.{take-length}
use Rattle.std.proofs.lemmas.Bool.{cases_Bool, cases_lt, eqb-true}
use Rattle.std.proofs.lemmas.Bool.Decides.{nat_tests}
use Rattle.std.proofs.lemmas.Slice.Eq.{bytes_eq-Decides}
use Rattle.fdp_base.specs.Text.{digit, hex, line}
use Rattle.fdp_output.specs.Output.{pieces_of}
use Rattle.fdp_trace.specs.Printer.{Extends}

-- what follows where all went well
pub when_ok : {T E : Type 0} (A B : Type 0) (r : Result T E) → (A → B) → OnOk r A → OnOk r B
when_ok A B (Ok x) next h = next h
when_ok A B (Err e) next h = tt

-- a text that grew twice
pub extends_more : (old mid new piece : List ℕ) → Extends old mid → new ≡ mid ++ piece → Extends old new
extends_more old mid new piece e is = record { more = e.more ++ piece; whole = is ∙ ap (λ (t : List ℕ). t ++ piece) e.whole ∙ append_assoc old e.more piece }

pub extends_both : (old mid new : List ℕ) → Extends old mid → Extends mid new → Extends old new
extends_both old mid new first second = extends_more old mid new second.more first second.whole

pub hex_more : (digits n : ℕ) → (digits ≡ 0 → ⊥) → hex digits n ≡ hex (digits - 1) (n / 16) ++ digit (n % 16) ∷ []
unfolding hex
hex_more zero n some = absurd (some refl)
hex_more (suc k) n some =
    let e : suc k - 1 ≡ k = omega arith in
    ap (λ (d : ℕ). hex d (n / 16) ++ digit (n % 16) ∷ []) (sym e)

pub hex_push : (text old : List ℕ) (digits n : ℕ) → (digits ≡ 0 → ⊥) → text ≡ old ++ hex (digits - 1) (n / 16) → text ++ digit (n % 16) ∷ [] ≡ old ++ hex digits n
hex_push text old digits n some e =
    ap (λ (t : List ℕ). t ++ digit (n % 16) ∷ []) e ∙ append_assoc old (hex (digits - 1) (n / 16)) (digit (n % 16) ∷ [])
    ∙ ap (λ (t : List ℕ). old ++ t) (sym (hex_more digits n some))

-- ---- pieces

-- what is printed of the pieces that are left goes behind the text so far
pub one_piece : (show : List ℕ → List ℕ) (n m size : ℕ) (rest text all : List ℕ) → n ≡ suc m → 0 < length rest
    → text ++ flat_map show (pieces_of n size rest) ≡ all → (text ++ show (take size rest)) ++ flat_map show (pieces_of m size (drop size rest)) ≡ all
unfolding pieces_of
one_piece show n m size [] text all one more so_far = absurd (omega arith)
one_piece show n m size (b ∷ bs) text all one more so_far =
    append_assoc text (show (take size (b ∷ bs))) (flat_map show (pieces_of m size (drop size (b ∷ bs))))
    ∙ ap (λ (k : ℕ). text ++ flat_map show (pieces_of k size (b ∷ bs))) (sym one)
    ∙ so_far

pub some_left : {X : Type 0} (xs : List X) → (length xs == 0) ≡ false → 0 < length xs
some_left xs e = grind (arith, nat_tests)

pub none_left : {X : Type 0} (xs : List X) → (length xs == 0) ≡ true → length xs ≡ 0
none_left xs e = eqb-true (length xs) 0 e

pub take_min : {X : Type 0} (xs : List X) (n : ℕ) → take (min (length xs) n) xs ≡ take n xs
take_min xs n = elim (cases_lt n (length xs)) [
  | inl lt ↦ let k : min (length xs) n ≡ n = omega arith in ap (λ (k : ℕ). take k xs) k
  | inr le ↦ let k : min (length xs) n ≡ length xs = omega arith in ap (λ (k : ℕ). take k xs) k ∙ take-length xs ∙ sym (take_all n xs le)
]

pub drop_min : {X : Type 0} (xs : List X) (n : ℕ) → drop (min (length xs) n) xs ≡ drop n xs
drop_min xs n = elim (cases_lt n (length xs)) [
  | inl lt ↦ let k : min (length xs) n ≡ n = omega arith in ap (λ (k : ℕ). drop k xs) k
  | inr le ↦ nil_from_length (drop (min (length xs) n) xs) (omega (arith, length-drop (min (length xs) n) xs)) ∙ sym (nil_from_length (drop n xs) (omega (arith, length-drop n xs)))
]

pub no_piece : (show : List ℕ → List ℕ) (n size : ℕ) (rest text all : List ℕ) → length rest ≡ 0
    → text ++ flat_map show (pieces_of n size rest) ≡ all → text ≡ all
unfolding pieces_of
no_piece show zero size [] text all none so_far = sym (append-nil text) ∙ so_far
no_piece show (suc n) size [] text all none so_far = sym (append-nil text) ∙ so_far
no_piece show n size (b ∷ bs) text all none so_far = absurd (omega arith)

pub no_more : (show : List ℕ → List ℕ) (n size : ℕ) (rest text all : List ℕ) → n ≡ 0
    → text ++ flat_map show (pieces_of n size rest) ≡ all → text ≡ all
unfolding pieces_of
no_more show zero size rest text all none so_far = sym (append-nil text) ∙ so_far
no_more show (suc n) size rest text all none so_far = absurd (omega arith)

-- a block less is left
pub room : (count i size len less : ℕ) → i < count → (count - i) * size ≤ len → less + size ≡ len → (count - (i + 1)) * size ≤ less
room count i size len less lt fits e =
    let k = count - (i + 1) in
    let one : count - i ≡ suc k = omega arith in
    let more : (count - i) * size ≡ k * size + size = ap (λ (n : ℕ). n * size) one ∙ omega arith in
    omega (arith, more)

pub no_pieces : (show : List ℕ → List ℕ) (n size : ℕ) (bytes text : List ℕ) → n ≡ 0 → text ≡ text ++ flat_map show (pieces_of n size bytes)
unfolding pieces_of
no_pieces show zero size bytes text none = sym (append-nil text)
no_pieces show (suc n) size bytes text none = absurd (omega arith)

-- ---- a word over and over

no_both : (b : Bool) → b ≡ true → b ≡ false → ⊥
no_both b yes' no' = cc

pub bytes_differ : (a b : List ℕ) → (a ≡ b → ⊥) → bytes_eq a b ≡ false
bytes_differ a b not = elim (cases_Bool (bytes_eq a b)) [
  | inl here ↦ absurd (not ((bytes_eq-Decides a b).0 here))
  | inr there ↦ there
]

pub empty_eq : (xs : List ℕ) → (length xs == 0) ≡ bytes_eq xs []
empty_eq [] = refl
empty_eq (x ∷ xs) = let e : (suc (length xs) == 0) ≡ false = grind (arith, nat_tests) in e

pub bytes_same : (a b c d : List ℕ) → (a ≡ b → c ≡ d) → (c ≡ d → a ≡ b) → bytes_eq a b ≡ bytes_eq c d
bytes_same a b c d there back =
    elim (cases_Bool (bytes_eq a b)) [
      | inl here ↦ here ∙ sym ((bytes_eq-Decides c d).1 (there ((bytes_eq-Decides a b).0 here)))
      | inr not ↦ not ∙ sym (bytes_differ c d (λ e. no_both (bytes_eq a b) ((bytes_eq-Decides a b).1 (back e)) not))
    ]

-- ---- a line of four words

pub line_of_four : (old a b c d t1 t2 t3 t4 t5 t6 t7 t8 : List ℕ) → t1 ≡ old ++ a → t2 ≡ t1 ++ 32 ∷ [] → t3 ≡ t2 ++ b → t4 ≡ t3 ++ 32 ∷ [] → t5 ≡ t4 ++ c → t6 ≡ t5 ++ 32 ∷ []
    → t7 ≡ t6 ++ d → t8 ≡ t7 ++ 10 ∷ [] → t8 ≡ old ++ line (a ∷ b ∷ c ∷ d ∷ [])
line_of_four old a b c d t1 t2 t3 t4 t5 t6 t7 t8 e1 e2 e3 e4 e5 e6 e7 e8 =
    rw (e8, e7, e6, e5, e4, e3, e2, e1) (simp append_assoc)
