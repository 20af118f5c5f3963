-- Lines of data that stand behind an entry.
use Rattle.std.proofs.Common.{◌≡◌, ℕ, zero, suc, ◌+◌, ◌-◌, ◌*◌, ◌/◌, ◌%◌, ◌^◌, ◌<◌, ◌≤◌, Bool, true, List, [], ◌∷◌, ◌++◌, length, take, drop, refl, sym, ap, ◌∙◌, append_assoc, arith}
use Rattle.std.specs.Prelude.{bytes_eq, codes, flat_map, if◌then◌else◌}
use Rattle.std.specs.Int.{from_le_bytes, to_le_bytes, w32}
use Rattle.std.proofs.lemmas.List.{append-nil, drop_at, length-append, length-drop, take_at}
use Rattle.std.proofs.lemmas.Grind.{flat_map-append}
use Rattle.std.proofs.lemmas.Nat.{from_le_bytes-to_le_bytes_4}
use Rattle.std.proofs.lemmas.Slice.Eq.{bytes_eq-Decides}
use Rattle.std.proofs.Math.Nat.{mul-div_cancel_left}
use Rattle.std.proofs.Math.Seq.{drop-append-add, drop-nil, take-append-add, take-nil}
use Rattle.fdp_base.proofs.Repeating.{front_repeated, length_repeated}
use Rattle.fdp_base.specs.Numbers.{numbers_below, numbers_from}
use Rattle.fdp_base.specs.Pattern.{pattern_block, repeated}
use Rattle.fdp_base.specs.Text.{hex, hex_bytes}
use Rattle.fdp_output.specs.Output.{block_line, block_lines, block_text, data_line, data_lines, pieces_of}
use Rattle.fdp_queues.proofs.Data.{length-numbers, numbers-next}
use Rattle.fdp_queues.specs.Data.{pattern}

-- ---- lines of 32 bytes, made of items of one size

-- pieces enough are all pieces
pieces-enough : (size n m : ℕ) (bs : List ℕ) → 0 < size → length bs ≤ n → length bs ≤ m → pieces_of n size bs ≡ pieces_of m size bs
unfolding pieces_of
pieces-enough size zero zero bs some here there = refl
pieces-enough size zero (suc m) [] some here there = refl
pieces-enough size zero (suc m) (b ∷ bs) some here there = absurd (omega arith)
pieces-enough size (suc n) zero [] some here there = refl
pieces-enough size (suc n) zero (b ∷ bs) some here there = absurd (omega arith)
pieces-enough size (suc n) (suc m) [] some here there = refl
pieces-enough size (suc n) (suc m) (b ∷ bs) some here there =
    let rest : length (drop size (b ∷ bs)) ≡ suc (length bs) - size = length-drop size (b ∷ bs) in
    ap (λ (ps : List (List ℕ)). take size (b ∷ bs) ∷ ps) (pieces-enough size n m (drop size (b ∷ bs)) some (omega (arith, rest)) (omega (arith, rest)))

data-next : (bs : List ℕ) → 0 < length bs → data_lines bs ≡ data_line (take 32 bs) ++ data_lines (drop 32 bs)
unfolding pieces_of
data-next [] some = absurd (omega arith)
data-next (b ∷ bs) some =
    let rest : length (drop 32 (b ∷ bs)) ≡ suc (length bs) - 32 = length-drop 32 (b ∷ bs) in
    ap (λ (ps : List (List ℕ)). data_line (take 32 (b ∷ bs)) ++ flat_map data_line ps) (pieces-enough 32 (length bs) (length (drop 32 (b ∷ bs))) (drop 32 (b ∷ bs)) (omega arith) (omega (arith, rest)) (omega arith))

take-items : {X : Type 0} (f : X → List ℕ) (size k : ℕ) → ((x : X) → length (f x) ≡ size) → (xs : List X) → take (k * size) (flat_map f xs) ≡ flat_map f (take k xs)
take-items f size zero each xs = let none : 0 * size ≡ 0 = omega arith in ap (λ (n : ℕ). take n (flat_map f xs)) none
take-items f size (suc k) each [] = take-nil (suc k * size)
take-items f size (suc k) each (x ∷ xs) =
    let more : suc k * size ≡ length (f x) + k * size = omega (arith, each x) in
    ap (λ (n : ℕ). take n (f x ++ flat_map f xs)) more ∙ take-append-add (f x) (flat_map f xs) (k * size) ∙ ap (λ (t : List ℕ). f x ++ t) (take-items f size k each xs)

drop-items : {X : Type 0} (f : X → List ℕ) (size k : ℕ) → ((x : X) → length (f x) ≡ size) → (xs : List X) → drop (k * size) (flat_map f xs) ≡ flat_map f (drop k xs)
drop-items f size zero each xs = let none : 0 * size ≡ 0 = omega arith in ap (λ (n : ℕ). drop n (flat_map f xs)) none
drop-items f size (suc k) each [] = drop-nil (suc k * size)
drop-items f size (suc k) each (x ∷ xs) =
    let more : suc k * size ≡ length (f x) + k * size = omega (arith, each x) in
    ap (λ (n : ℕ). drop n (f x ++ flat_map f xs)) more ∙ drop-append-add (f x) (flat_map f xs) (k * size) ∙ drop-items f size k each xs

-- the next line of items of which so many fill one
pub items-next : {X : Type 0} (f : X → List ℕ) (size k : ℕ) → ((x : X) → length (f x) ≡ size) → k * size ≡ 32 → 0 < size → (xs : List X) → 0 < length xs
    → data_lines (flat_map f xs) ≡ data_line (flat_map f (take k xs)) ++ data_lines (flat_map f (drop k xs))
items-next f size k each full some [] more = absurd (omega arith)
items-next f size k each full some (x ∷ xs) more =
    let all = flat_map f (x ∷ xs) in
    let long : 0 < length all = omega (arith, length-append (f x) (flat_map f xs), each x) in
    data-next all long
    ∙ ap (λ (n : ℕ). data_line (take n all) ++ data_lines (drop n all)) (sym full)
    ∙ ap (λ (t : List ℕ). data_line t ++ data_lines (drop (k * size) all)) (take-items f size k each (x ∷ xs))
    ∙ ap (λ (t : List ℕ). data_line (flat_map f (take k (x ∷ xs))) ++ data_lines t) (drop-items f size k each (x ∷ xs))

-- a line was appended, and the others are still to come
pub line_pushed : (text new piece rest whole all : List ℕ) → new ≡ text ++ piece → whole ≡ piece ++ rest → text ++ whole ≡ all → new ++ rest ≡ all
line_pushed text new piece rest whole all pushed cut so-far =
    ap (λ (t : List ℕ). t ++ rest) pushed ∙ append_assoc text piece rest ∙ ap (λ (t : List ℕ). text ++ t) (sym cut) ∙ so-far

-- no items are no lines
pub items-end : {X : Type 0} (f : X → List ℕ) (xs : List X) (text all : List ℕ) → length xs ≡ 0 → text ++ data_lines (flat_map f xs) ≡ all → text ≡ all
unfolding pieces_of
items-end f [] text all none so-far = sym (append-nil text) ∙ so-far
items-end f (x ∷ xs) text all none so-far = absurd (omega arith)

-- digits of one item more
pub hex-next : {X : Type 0} (f : X → List ℕ) (old mid new : List ℕ) (xs : List X) (x : X) → mid ≡ old ++ hex_bytes (flat_map f xs) → new ≡ mid ++ hex_bytes (f x) → new ≡ old ++ hex_bytes (flat_map f (xs ++ x ∷ []))
hex-next f old mid new xs x before pushed =
    let more : flat_map f (xs ++ x ∷ []) ≡ flat_map f xs ++ f x = flat_map-append f xs (x ∷ []) ∙ ap (λ (t : List ℕ). flat_map f xs ++ t) (append-nil (f x)) in
    pushed ∙ ap (λ (t : List ℕ). t ++ hex_bytes (f x)) before ∙ append_assoc old (hex_bytes (flat_map f xs)) (hex_bytes (f x))
    ∙ ap (λ (t : List ℕ). old ++ t) (sym (flat_map-append (hex 2) (flat_map f xs) (f x))) ∙ ap (λ (t : List ℕ). old ++ hex_bytes t) (sym more)

-- ---- blocks of a pattern

-- the line of a block whose words are all this one
abbrev pub word_line : ℕ → List ℕ
word_line word = codes "  " ++ hex 8 word ++ 10 ∷ []

-- the line of a block of a pattern
abbrev pub seed_line : ℕ → ℕ → List ℕ
seed_line seed i = word_line ((seed + i) % 2 ^ 32)

block-size : (block seed i : ℕ) → length (pattern_block block seed i) ≡ block / 4 * 4
block-size block seed i = length_repeated (block / 4) (to_le_bytes w32 ((seed + i) % 2 ^ 32))

block-word : (block seed i : ℕ) → 4 ≤ block → take 4 (pattern_block block seed i) ≡ to_le_bytes w32 ((seed + i) % 2 ^ 32)
unfolding repeated
block-word block seed i enough = front_repeated 1 (block / 4) (to_le_bytes w32 ((seed + i) % 2 ^ 32)) (omega arith)

block-line : (block seed i : ℕ) → 4 ≤ block → block_line (pattern_block block seed i) ≡ seed_line seed i
block-line block seed i enough =
    let n = (seed + i) % 2 ^ 32 in
    let b = pattern_block block seed i in
    let word = block-word block seed i enough in
    let count : length b / 4 ≡ block / 4 = omega (arith, block-size block seed i) in
    let filled : repeated (length b / 4) (take 4 b) ≡ b = ap (λ (k : ℕ). repeated k (take 4 b)) count ∙ ap (repeated (block / 4)) word in
    let same : bytes_eq b (repeated (length b / 4) (take 4 b)) ≡ true = (bytes_eq-Decides b (repeated (length b / 4) (take 4 b))).1 (sym filled) in
    let number : from_le_bytes w32 (take 4 b) ≡ n = ap (from_le_bytes w32) word ∙ from_le_bytes-to_le_bytes_4 n (omega arith) in
    let text : block_text b ≡ hex 8 n = ap (λ (e : Bool). if e then hex 8 (from_le_bytes w32 (take 4 b)) else hex_bytes b) same ∙ ap (hex 8) number in
    ap (λ (t : List ℕ). codes "  " ++ t ++ 10 ∷ []) text

piece-first : (n size : ℕ) (bs : List ℕ) → 0 < length bs → pieces_of (suc n) size bs ≡ take size bs ∷ pieces_of n size (drop size bs)
unfolding pieces_of
piece-first n size [] some = absurd (omega arith)
piece-first n size (b ∷ bs) some = refl

-- items of one size, a line each
items-lines : {X : Type 0} (show : List ℕ → List ℕ) (f : X → List ℕ) (size : ℕ) → 0 < size → ((x : X) → length (f x) ≡ size) → (xs : List X)
    → flat_map show (pieces_of (length xs) size (flat_map f xs)) ≡ flat_map (λ (x : X). show (f x)) xs
unfolding pieces_of
items-lines show f size some each [] = refl
items-lines show f size some each (x ∷ xs) =
    let rest = flat_map f xs in
    let long : 0 < length (f x ++ rest) = omega (arith, length-append (f x) rest, each x) in
    ap (flat_map show) (piece-first (length xs) size (f x ++ rest) long)
    ∙ ap (λ (t : List ℕ). show t ++ flat_map show (pieces_of (length xs) size (drop size (f x ++ rest)))) (take_at (f x) rest size (each x))
    ∙ ap (λ (t : List ℕ). show (f x) ++ flat_map show (pieces_of (length xs) size t)) (drop_at (f x) rest size (each x))
    ∙ ap (λ (t : List ℕ). show (f x) ++ t) (items-lines show f size some each xs)

items-length : {X : Type 0} (f : X → List ℕ) (size : ℕ) → ((x : X) → length (f x) ≡ size) → (xs : List X) → length (flat_map f xs) ≡ length xs * size
items-length f size each [] = omega arith
items-length f size each (x ∷ xs) = omega (arith, length-append (f x) (flat_map f xs), each x, items-length f size each xs)

same-lines : (f g : ℕ → List ℕ) → ((i : ℕ) → f i ≡ g i) → (xs : List ℕ) → flat_map f xs ≡ flat_map g xs
same-lines f g each [] = refl
same-lines f g each (x ∷ xs) = ap (λ (t : List ℕ). t ++ flat_map f xs) (each x) ∙ ap (λ (t : List ℕ). g x ++ t) (same-lines f g each xs)

some-lines : (block count seed : ℕ) → 4 ≤ block → 0 < count → block_lines count (pattern block count seed) ≡ flat_map (seed_line seed) (numbers_below count)
some-lines block count seed enough some =
    let f = pattern_block block seed in
    let size = block / 4 * 4 in
    let is = length-numbers 0 count in
    let whole : length (pattern block count seed) ≡ count * size = items-length f size (block-size block seed) (numbers_below count) ∙ ap (λ (n : ℕ). n * size) is in
    let each : length (pattern block count seed) / count ≡ size = ap (λ (n : ℕ). n / count) whole ∙ mul-div_cancel_left size some in
    ap (λ (n : ℕ). flat_map block_line (pieces_of count n (pattern block count seed))) each
    ∙ ap (λ (n : ℕ). flat_map block_line (pieces_of n size (pattern block count seed))) (sym is)
    ∙ items-lines block_line f size (omega arith) (block-size block seed) (numbers_below count)
    ∙ same-lines (λ (i : ℕ). block_line (f i)) (seed_line seed) (λ i. block-line block seed i enough) (numbers_below count)

pub pattern_lines : (block count seed : ℕ) → 4 ≤ block → block_lines count (pattern block count seed) ≡ flat_map (seed_line seed) (numbers_below count)
unfolding pieces_of numbers_from
pattern_lines block zero seed enough = refl
pattern_lines block (suc count) seed enough = some-lines block (suc count) seed enough (omega arith)

-- blocks that are too small for a word have no bytes, and no lines
no-items : (f : ℕ → List ℕ) → ((i : ℕ) → f i ≡ []) → (xs : List ℕ) → flat_map f xs ≡ []
no-items f each [] = refl
no-items f each (x ∷ xs) = ap (λ (t : List ℕ). t ++ flat_map f xs) (each x) ∙ no-items f each xs

no-bytes : (n size : ℕ) → pieces_of n size [] ≡ []
unfolding pieces_of
no-bytes zero size = refl
no-bytes (suc n) size = refl

pub no_lines : (block count seed : ℕ) → block < 4 → block_lines count (pattern block count seed) ≡ []
unfolding repeated
no_lines block count seed small =
    let none : block / 4 ≡ 0 = omega arith in
    let f = pattern_block block seed in
    let empty : pattern block count seed ≡ [] = no-items f (λ i. ap (λ (k : ℕ). repeated k (to_le_bytes w32 ((seed + i) % 2 ^ 32))) none) (numbers_below count) in
    ap (block_lines count) empty ∙ ap (flat_map block_line) (no-bytes count (0 / count))

pub seeds-none : (seed : ℕ) (text : List ℕ) → text ≡ text ++ flat_map (seed_line seed) (numbers_below 0)
unfolding numbers_from
seeds-none seed text = sym (append-nil text)

-- the line of one block more
pub seeds-next : (seed i word : ℕ) (old mid new : List ℕ) → word ≡ (seed + i) % 2 ^ 32 → mid ≡ old ++ flat_map (seed_line seed) (numbers_below i) → new ≡ mid ++ word_line word → new ≡ old ++ flat_map (seed_line seed) (numbers_below (i + 1))
seeds-next seed i word old mid new is before pushed =
    let f = seed_line seed in
    let more : flat_map f (numbers_below (i + 1)) ≡ flat_map f (numbers_below i) ++ f i = ap (flat_map f) (numbers-next i) ∙ flat_map-append f (numbers_below i) (i ∷ []) ∙ ap (λ (t : List ℕ). flat_map f (numbers_below i) ++ t) (append-nil (f i)) in
    pushed ∙ ap (λ (n : ℕ). mid ++ word_line n) is ∙ ap (λ (t : List ℕ). t ++ f i) before ∙ append_assoc old (flat_map f (numbers_below i)) (f i) ∙ ap (λ (t : List ℕ). old ++ t) (sym more)
