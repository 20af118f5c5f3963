-- Cutting bytes at the first that passes a test.
use Rattle.std.proofs.Common.{◌≡◌, ℕ, zero, suc, ◌+◌, ◌-◌, ◌<◌, ◌≤◌, Bool, true, false, cond, ◌==◌, List, [], ◌∷◌, length, get_or, take, drop, refl, sym, ap, subst, ◌∙◌, arith}
use Rattle.std.specs.List.{slice_split, onto_first}
use Rattle.std.proofs.lemmas.List.{nil_from_length, length-drop, length-take, get_or-drop}
use Rattle.std.proofs.lemmas.Bool.Decides.{nat_tests}
use Rattle.std.proofs.Math.Seq.{take-length, drop-cons}
use Rattle.fdp_trace.specs.Words.{is_blank, words_of}
use Rattle.fdp_trace.specs.Reader.FrontOf.{IsFront, is_line_feed}
use Rattle.std.specs.Str.Lines.{lines, lines_of_parts, strip_carriage_return}

abbrev onto_front : List ℕ → List (List ℕ) → List (List ℕ)
onto_front [] parts = parts
onto_front (x ∷ front) parts = onto_first x (onto_front front parts)

-- bytes that pass no test go to the front of the first part
split_front : (test : ℕ → Bool) (n : ℕ) (xs : List ℕ) → n ≤ length xs → ((k : ℕ) → k < n → test (get_or xs k 0) ≡ false)
    → slice_split test xs ≡ onto_front (take n xs) (slice_split test (drop n xs))
split_front test zero xs le fails = refl
split_front test (suc n) [] le fails = absurd (omega arith)
split_front test (suc n) (x ∷ xs) le fails =
    let here : test x ≡ false = fails 0 (omega arith) in
    let rest = split_front test n xs (omega arith) (λ k lt. fails (suc k) (omega arith)) in
    rw (here, rest) refl

onto_empty : (front : List ℕ) (parts : List (List ℕ)) → onto_front front ([] ∷ parts) ≡ front ∷ parts
onto_empty [] parts = refl
onto_empty (x ∷ front) parts = ap (onto_first x) (onto_empty front parts)

-- what is left of the parts behind the front
abbrev pub later : (ℕ → Bool) → List ℕ → List (List ℕ)
later test [] = []
later test (b ∷ bs) = slice_split test bs

split_rest : (test : ℕ → Bool) (ys : List ℕ) → (0 < length ys → test (get_or ys 0 0) ≡ true) → slice_split test ys ≡ [] ∷ later test ys
split_rest test [] there = refl
split_rest test (b ∷ bs) there = let e : test b ≡ true = there (omega arith) in rw e refl

get-drop : (n : ℕ) (xs : List ℕ) (test : ℕ → Bool) → test (get_or (drop n xs) 0 0) ≡ test (get_or xs n 0)
get-drop n xs test = ap test (get_or-drop n xs 0 0 ∙ ap (λ (k : ℕ). get_or xs k 0) (omega arith))

-- the first part is the front
pub split_cut : (test : ℕ → Bool) (xs : List ℕ) (n : ℕ) → IsFront test xs n
    → (slice_split test xs ≡ take n xs ∷ later test (drop n xs)) × (slice_split test (drop n xs) ≡ [] ∷ later test (drop n xs))
split_cut test xs n front =
    let rest = split_rest test (drop n xs) (λ some.
    let lt : n < length xs = omega (arith, length-drop n xs) in
    get-drop n xs test ∙ front.there lt) in
    (split_front test n xs front.within front.before ∙ ap (onto_front (take n xs)) rest ∙ onto_empty (take n xs) (later test (drop n xs)), rest)

not_empty : (xs : List ℕ) → 0 < length xs → (length xs == 0) ≡ false
not_empty xs some = grind (arith, nat_tests)

-- a word and the words behind it
pub words_cut : (xs : List ℕ) (n : ℕ) → IsFront is_blank xs n → 0 < n → words_of xs ≡ take n xs ∷ words_of (drop n xs)
unfolding words_of
words_cut xs n front some =
    let e = split_cut is_blank xs n front in
    let long : (length (take n xs) == 0) ≡ false = not_empty (take n xs) (omega (arith, length-take n xs, front.within)) in
    rw (e.0, e.1, long) refl

-- a blank in front changes no word
pub words_skip : (b : ℕ) (bs : List ℕ) → is_blank b ≡ true → words_of (b ∷ bs) ≡ words_of bs
unfolding words_of
words_skip b bs e = rw e refl

pub rest_whole : (n : ℕ) (xs : List ℕ) → take (length xs - n) (drop n xs) ≡ drop n xs
rest_whole n xs = ap (λ (k : ℕ). take k (drop n xs)) (sym (length-drop n xs)) ∙ take-length (drop n xs)

pub words_step : (xs : List ℕ) → 0 < length xs → is_blank (get_or xs 0 0) ≡ true → words_of (take (length xs - 1) (drop 1 xs)) ≡ words_of xs
words_step [] some e = absurd (omega arith)
words_step (b ∷ bs) some e = ap words_of (rest_whole 1 (b ∷ bs)) ∙ sym (words_skip b bs e)

pub no_words : words_of [] ≡ []
unfolding words_of
no_words = refl

-- a word, as it is cut
pub next_cut : (line xs : List ℕ) (n : ℕ) → words_of xs ≡ words_of line → IsFront is_blank xs n → (n ≡ 0 → ⊥) → words_of line ≡ take n xs ∷ words_of (take (length xs - n) (drop n xs))
next_cut line xs n same front some =
    sym same ∙ words_cut xs n front (omega arith) ∙ ap (λ (r : List ℕ). take n xs ∷ words_of r) (sym (rest_whole n xs))

pub no_cut : (line xs : List ℕ) (n : ℕ) → words_of xs ≡ words_of line → IsFront is_blank xs n → n ≡ 0 → (IsFront is_blank xs 0 → xs ≡ []) → words_of line ≡ []
no_cut line xs n same front e begins =
    let empty : xs ≡ [] = begins (subst (λ (k : ℕ). IsFront is_blank xs k) e front) in
    sym same ∙ ap words_of empty ∙ no_words

pub shorter : (xs : List ℕ) (m : ℕ) → 0 < length xs → length xs ≤ m → length (take (length xs - 1) (drop 1 xs)) ≤ m
shorter xs m some le = omega (arith, length-drop 1 xs, ap length (rest_whole 1 xs))

-- ---- lines

-- what splits into a first part and others
abbrev HasFirst : List (List ℕ) → Type 0
HasFirst parts = (y : List ℕ) × (ys : List (List ℕ)) × (parts ≡ y ∷ ys)

first_part : (b : Bool) (x : ℕ) (parts others : List (List ℕ)) → HasFirst (cond b ([] ∷ others) (onto_first x parts))
first_part true x parts others = ([], others, refl)
first_part false x [] others = (x ∷ [], [], refl)
first_part false x (part ∷ parts) others = (x ∷ part, parts, refl)

split_some : (test : ℕ → Bool) (xs : List ℕ) → HasFirst (slice_split test xs)
split_some test [] = ([], [], refl)
split_some test (x ∷ xs) = first_part (test x) x (slice_split test xs) (slice_split test xs)

drop_whole : (xs : List ℕ) (n : ℕ) → n ≡ length xs → drop n xs ≡ []
drop_whole xs n e = nil_from_length (drop n xs) (omega (arith, length-drop n xs))

pub line_last : (xs : List ℕ) (n : ℕ) → 0 < length xs → IsFront is_line_feed xs n → n ≡ length xs → lines xs ≡ take n xs ∷ []
line_last xs n some front e =
    let cut = (split_cut is_line_feed xs n front).0 in
    let whole : slice_split is_line_feed xs ≡ take n xs ∷ [] = cut ∙ ap (λ (ys : List ℕ). take n xs ∷ later is_line_feed ys) (drop_whole xs n e) in
    let long : (length (take n xs) == 0) ≡ false = not_empty (take n xs) (omega (arith, length-take n xs)) in
    ap lines_of_parts whole ∙ rw long refl

parts_cut : (x : List ℕ) (parts : List (List ℕ)) → HasFirst parts → lines_of_parts (x ∷ parts) ≡ strip_carriage_return x ∷ lines_of_parts parts
parts_cut x parts (y, ys, e) = rw e refl

pub line_cut : (xs : List ℕ) (n : ℕ) → IsFront is_line_feed xs n → n < length xs → lines xs ≡ strip_carriage_return (take n xs) ∷ lines (take (length xs - (n + 1)) (drop (n + 1) xs))
line_cut xs n front lt =
    let cut = (split_cut is_line_feed xs n front).0 in
    let rest = drop (n + 1) xs in
    let one : suc n ≡ n + 1 = omega arith in
    let next : drop n xs ≡ get_or xs n 0 ∷ rest = drop-cons xs n 0 lt ∙ ap (λ (k : ℕ). get_or xs n 0 ∷ drop k xs) one in
    let whole : slice_split is_line_feed xs ≡ take n xs ∷ slice_split is_line_feed rest = cut ∙ ap (λ (ys : List ℕ). take n xs ∷ later is_line_feed ys) next in
    let same : take (length xs - (n + 1)) rest ≡ rest = rest_whole (n + 1) xs in
    ap lines_of_parts whole ∙ parts_cut (take n xs) (slice_split is_line_feed rest) (split_some is_line_feed rest)
    ∙ ap (λ (ys : List ℕ). strip_carriage_return (take n xs) ∷ lines ys) (sym same)
