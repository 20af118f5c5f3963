-- The steps of the loops that read.
use Rattle.std.proofs.Common.{◌≡◌, ℕ, zero, suc, ◌+◌, ◌-◌, ◌%◌, ◌<◌, ◌≤◌, min, List, [], ◌∷◌, ◌++◌, length, take, drop, replicate, refl, sym, ap, ◌∙◌, append_assoc, arith, Result, Ok, Err}
use Rattle.std.specs.List.{before_first, after_first}
use Rattle.std.proofs.lemmas.List.{append-nil, length-drop, nil_from_length}
use Rattle.fdp_base.specs.declared.entry.BlockName.{BlockName}
use Rattle.fdp_base.specs.Pattern.{repeated}
use Rattle.fdp_trace.specs.declared.fault.FaultKind.{FaultKind}
use Rattle.fdp_trace.specs.Reader.FrontOf.{is_line_feed}
use Rattle.fdp_trace.specs.Reader.Reading.{◌>>=◌}
use Rattle.fdp_prints.specs.Reader.{Words, bytes_in, hex_number, lines_in, name_in, names_in}

-- ---- bytes

pub bytes-step : (n m : ℕ) (digits old all : List ℕ) → n ≡ suc m → old ++ bytes_in n digits ≡ all → (old ++ (hex_number (take 2 digits) % 256) ∷ []) ++ bytes_in m (drop 2 digits) ≡ all
unfolding bytes_in
bytes-step n m digits old all more so_far =
    append_assoc old ((hex_number (take 2 digits) % 256) ∷ []) (bytes_in m (drop 2 digits)) ∙ ap (λ (k : ℕ). old ++ bytes_in k digits) (sym more) ∙ so_far

pub bytes-end : (n : ℕ) (digits old all : List ℕ) → n ≡ 0 → old ++ bytes_in n digits ≡ all → old ≡ all
unfolding bytes_in
bytes-end n digits old all none so_far = sym (append-nil old) ∙ ap (λ (k : ℕ). old ++ bytes_in k digits) (sym none) ∙ so_far

pub word-step : (i : ℕ) (xs old first : List ℕ) → old ≡ first ++ repeated i xs → old ++ xs ≡ first ++ repeated (i + 1) xs
unfolding repeated
word-step i xs old first so_far =
    let more : i + 1 ≡ suc i = omega arith in
    ap (λ (t : List ℕ). t ++ xs) so_far ∙ append_assoc first (repeated i xs) xs ∙ ap (λ (k : ℕ). first ++ repeated k xs) (sym more)

pub word-none : (xs first : List ℕ) → first ≡ first ++ repeated 0 xs
unfolding repeated
word-none xs first = sym (append-nil first)

-- ---- lines

pub lines-step : (piece : ℕ → List ℕ → List ℕ) (size n m left : ℕ) (text old all : List ℕ) → n ≡ suc m → 0 < left → old ++ lines_in piece size n left text ≡ all
    → (old ++ piece (min size left) (drop 2 (before_first is_line_feed text))) ++ lines_in piece size m (left - size) (after_first is_line_feed text) ≡ all
unfolding lines_in
lines-step piece size n m zero text old all more some so_far = absurd (omega (arith, some))
lines-step piece size n m (suc left) text old all more some so_far =
    append_assoc old (piece (min size (suc left)) (drop 2 (before_first is_line_feed text))) (lines_in piece size m (suc left - size) (after_first is_line_feed text))
    ∙ ap (λ (k : ℕ). old ++ lines_in piece size k (suc left) text) (sym more) ∙ so_far

pub lines-none : (piece : ℕ → List ℕ → List ℕ) (size n left : ℕ) (text old all : List ℕ) → left ≡ 0 → old ++ lines_in piece size n left text ≡ all → old ≡ all
unfolding lines_in
lines-none piece size zero left text old all none so_far = sym (append-nil old) ∙ so_far
lines-none piece size (suc n) zero text old all none so_far = sym (append-nil old) ∙ so_far
lines-none piece size (suc n) (suc left) text old all none so_far = absurd (omega (arith, none))

pub lines-end : (piece : ℕ → List ℕ → List ℕ) (size n left : ℕ) (text old all : List ℕ) → n ≡ 0 → old ++ lines_in piece size n left text ≡ all → old ≡ all
unfolding lines_in
lines-end piece size zero left text old all none so_far = sym (append-nil old) ∙ so_far
lines-end piece size (suc n) left text old all none so_far = absurd (omega (arith, none))

-- ---- names

-- names that are read, in front of what reading the rest gives
abbrev pub with_names : List BlockName → Result (List BlockName) FaultKind → Result (List BlockName) FaultKind
with_names names rest = rest >>= λ others. Ok (names ++ others)

pub names-step : (names : List BlockName) (name : BlockName) (word : List ℕ) (words : Words) (all : Result (List BlockName) FaultKind) → name_in word ≡ Ok name → with_names names (names_in (word ∷ words)) ≡ all → with_names (names ++ name ∷ []) (names_in words) ≡ all
unfolding names_in
names-step names name word words all is so_far = more (names_in words) ∙ ap (λ (r : Result BlockName FaultKind). with_names names (r >>= λ name. names_in words >>= λ others. Ok (name ∷ others))) (sym is) ∙ so_far where
  more : (rest : Result (List BlockName) FaultKind) → with_names (names ++ name ∷ []) rest ≡ with_names names (rest >>= λ others. Ok (name ∷ others))
  more (Ok others) = ap (λ (xs : List BlockName). Ok xs) (append_assoc names (name ∷ []) others)
  more (Err kind) = refl

pub names-fault : (names : List BlockName) (word : List ℕ) (words : Words) (all : Result (List BlockName) FaultKind) (kind : FaultKind) → name_in word ≡ Err kind → with_names names (names_in (word ∷ words)) ≡ all → all ≡ Err kind
unfolding names_in
names-fault names word words all kind is so_far = sym so_far ∙ ap (λ (r : Result BlockName FaultKind). with_names names (r >>= λ name. names_in words >>= λ others. Ok (name ∷ others))) is

pub names-end : (names : List BlockName) (words : Words) (all : Result (List BlockName) FaultKind) → words ≡ [] → with_names names (names_in words) ≡ all → all ≡ Ok names
unfolding names_in
names-end names words all none so_far = sym so_far ∙ ap (λ (ws : Words). with_names names (names_in ws)) none ∙ ap (λ (xs : List BlockName). Ok xs) (append-nil names)

pub names-begin : (all : Result (List BlockName) FaultKind) → with_names [] all ≡ all
names-begin (Ok names) = refl
names-begin (Err kind) = refl

-- ---- words

pub skip-step : (n : ℕ) (ws os : List (List ℕ)) (w : List ℕ) → drop n ws ≡ w ∷ os → drop (n + 1) ws ≡ os
skip-step zero [] os w is = absurd cc
skip-step zero (x ∷ xs) os w is = tail-one x w xs os is where
  tail-one : (x w : List ℕ) (xs os : List (List ℕ)) → x ∷ xs ≡ w ∷ os → xs ≡ os
  tail-one x w xs os e = cc
skip-step (suc n) [] os w is = absurd cc
skip-step (suc n) (x ∷ xs) os w is =
    let more : suc n + 1 ≡ suc (n + 1) = omega arith in
    ap (λ (k : ℕ). drop k (x ∷ xs)) more ∙ skip-step n xs os w is

pub skip-end : (n m : ℕ) (ws : List (List ℕ)) → n ≤ m → drop n ws ≡ [] → [] ≡ drop m ws
skip-end n m ws le none =
    let few : length ws ≤ n = omega (arith, length-drop n ws, ap (λ (t : List (List ℕ)). length t) none) in
    sym (nil_from_length (drop m ws) (omega (arith, length-drop m ws, few, le)))

-- ---- zeros

pub zero-none : (old : List ℕ) → old ≡ old ++ replicate 0 0
zero-none old = sym (append-nil old)

zeros-next : (n : ℕ) → replicate {A = ℕ} n 0 ++ 0 ∷ [] ≡ replicate (n + 1) 0
zeros-next zero = refl
zeros-next (suc n) =
    let more : suc n + 1 ≡ suc (n + 1) = omega arith in
    ap (λ (t : List ℕ). 0 ∷ t) (zeros-next n) ∙ sym (ap (λ (k : ℕ). replicate {A = ℕ} k 0) more)

pub zero-step : (n : ℕ) (old now : List ℕ) → now ≡ old ++ replicate n 0 → now ++ 0 ∷ [] ≡ old ++ replicate (n + 1) 0
zero-step n old now so_far = ap (λ (t : List ℕ). t ++ 0 ∷ []) so_far ∙ append_assoc old (replicate n 0) (0 ∷ []) ∙ ap (λ (t : List ℕ). old ++ t) (zeros-next n)

pub zero-end : (n m : ℕ) (old now : List ℕ) → n ≡ m → now ≡ old ++ replicate n 0 → now ≡ old ++ replicate m 0
zero-end n m old now same so_far = so_far ∙ ap (λ (k : ℕ). old ++ replicate {A = ℕ} k 0) same
