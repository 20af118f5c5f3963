-- The words of a checkpoint, and its pages word by word.
use Rattle.std.proofs.Common.{◌≡◌, ℕ, zero, suc, ◌+◌, ◌-◌, ◌*◌, ◌/◌, ◌<◌, ◌≤◌, List, [], ◌∷◌, ◌++◌, length, get_or, drop, take, Option, refl, sym, ap, ◌∙◌, arith, append_assoc, inl, inr}
use Rattle.std.specs.Prelude.{◌==◌, flat_map}
use Rattle.std.proofs.lemmas.Bool.{eqb-true, or_cases}
use Rattle.fdp_base.specs.Geometry.{IsBlockSize}
use Rattle.std.specs.Int.{to_le_bytes, w32}
use Rattle.std.proofs.lemmas.List.{drop-drop, drop-replicate, drop_all, drop_at, length-append, length-take-le, take-replicate, take_at}
use Rattle.fdp_records.specs.Bytes.{placed}
use Rattle.fdp_records.proofs.Laying.{length-placed}
use Rattle.fdp_snapshot.specs.Checkpoint.{page_list_bytes}
use Rattle.fdp_snapshot.specs.Content.{all_blocks, entry_in}
use Rattle.fdp_snapshot.specs.Rows.{entry_of, page_bytes, zeros}
use Rattle.fdp_snapshot.proofs.Blocks.{drop_next}

-- ---- entries

entry_front : (xs ys : List (Option ℕ)) (k : ℕ) → k < length xs → entry_in (xs ++ ys) k ≡ entry_in xs k
unfolding entry_in
entry_front [] ys k lt = absurd (omega arith)
entry_front (x ∷ xs) ys zero lt = refl
entry_front (x ∷ xs) ys (suc k) lt = entry_front xs ys k (omega arith)

entry_behind : (xs ys : List (Option ℕ)) (k : ℕ) → length xs ≤ k → entry_in (xs ++ ys) k ≡ entry_in ys (k - length xs)
unfolding entry_in
entry_behind [] ys k le = let e : k ≡ k - 0 = omega arith in ap (entry_in ys) e
entry_behind (x ∷ xs) ys zero le = absurd (omega arith)
entry_behind (x ∷ xs) ys (suc k) le =
    let e : k - length xs ≡ suc k - suc (length xs) = omega arith in
    entry_behind xs ys k (omega arith) ∙ ap (entry_in ys) e

-- the entry at a place of a list
entry_read : (xs : List (Option ℕ)) (k : ℕ) (x d : Option ℕ) → k < length xs → x ≡ get_or xs k d → entry_in xs k ≡ entry_of x
unfolding entry_in
entry_read [] k x d lt is = absurd (omega arith)
entry_read (y ∷ ys) zero x d lt is = ap entry_of (sym is)
entry_read (y ∷ ys) (suc k) x d lt is = entry_read ys k x d (omega arith) is

-- one list further on
pub entry_here : (n place left : ℕ) (lists : List (List (Option ℕ))) (list entries : List (Option ℕ)) (x d : Option ℕ) → n < length lists → list ≡ get_or lists n list → entries ≡ list → left < length entries
    → x ≡ get_or entries left d → entry_in (all_blocks lists) place ≡ entry_in (all_blocks (drop n lists)) left → entry_of x ≡ entry_in (all_blocks lists) place
entry_here n place left lists list entries x d lt is same inside read so_far =
    sym
    (so_far ∙ ap (λ (ls : List (List (Option ℕ))). entry_in (all_blocks ls) left) (drop_next n lists list lt is) ∙ ap (λ (l : List (Option ℕ)). entry_in (l ++ all_blocks (drop (n + 1) lists)) left) (sym same)
    ∙ entry_front entries (all_blocks (drop (n + 1) lists)) left inside ∙ entry_read entries left x d inside read)

pub entry_next : (n place left : ℕ) (lists : List (List (Option ℕ))) (list entries : List (Option ℕ)) → n < length lists → list ≡ get_or lists n list → entries ≡ list → length entries ≤ left
    → entry_in (all_blocks lists) place ≡ entry_in (all_blocks (drop n lists)) left → entry_in (all_blocks lists) place ≡ entry_in (all_blocks (drop (n + 1) lists)) (left - length entries)
entry_next n place left lists list entries lt is same past so_far =
    so_far ∙ ap (λ (ls : List (List (Option ℕ))). entry_in (all_blocks ls) left) (drop_next n lists list lt is) ∙ ap (λ (l : List (Option ℕ)). entry_in (l ++ all_blocks (drop (n + 1) lists)) left) (sym same)
    ∙ entry_behind entries (all_blocks (drop (n + 1) lists)) left past

pub entry_none : (n place left : ℕ) (lists : List (List (Option ℕ))) → length lists ≤ n → entry_in (all_blocks lists) place ≡ entry_in (all_blocks (drop n lists)) left → 0 ≡ entry_in (all_blocks lists) place
unfolding entry_in
entry_none n place left lists past so_far = sym (so_far ∙ ap (λ (ls : List (List (Option ℕ))). entry_in (all_blocks ls) left) (drop_all n lists past))

-- ---- words

flat-append : (xs ys : List (Option ℕ)) → flat_map page_bytes (xs ++ ys) ≡ flat_map page_bytes xs ++ flat_map page_bytes ys
flat-append [] ys = refl
flat-append (x ∷ xs) ys = ap (λ (bs : List ℕ). page_bytes x ++ bs) (flat-append xs ys) ∙ sym (append_assoc (page_bytes x) (flat_map page_bytes xs) (flat_map page_bytes ys))

pub listed_whole : (pages : List (List (Option ℕ))) → page_list_bytes pages ≡ flat_map page_bytes (all_blocks pages)
listed_whole [] = refl
listed_whole (p ∷ ps) = ap (λ (bs : List ℕ). flat_map page_bytes p ++ bs) (listed_whole ps) ∙ sym (flat-append p (all_blocks ps))

entries_word : (xs : List (Option ℕ)) (i rest : ℕ) → 4 * i + 4 ≤ length (flat_map page_bytes xs) + rest → take 4 (drop (4 * i) (flat_map page_bytes xs ++ zeros rest)) ≡ to_le_bytes w32 (entry_in xs i)
unfolding entry_in
entries_word [] i rest room = ap (take 4) (drop-replicate {X = ℕ} (4 * i) rest 0) ∙ take-replicate {X = ℕ} 4 (rest - 4 * i) 0 (omega arith)
entries_word (x ∷ xs) zero rest room =
    let whole = append_assoc (page_bytes x) (flat_map page_bytes xs) (zeros rest) in
    ap (take 4) whole ∙ take_at (page_bytes x) (flat_map page_bytes xs ++ zeros rest) 4 refl
entries_word (x ∷ xs) (suc i) rest room =
    let behind = flat_map page_bytes xs ++ zeros rest in
    let whole = append_assoc (page_bytes x) (flat_map page_bytes xs) (zeros rest) in
    let n : 4 * suc i ≡ 4 + 4 * i = omega arith in
    let long : length (flat_map page_bytes (x ∷ xs)) ≡ 4 + length (flat_map page_bytes xs) = length-append (page_bytes x) (flat_map page_bytes xs) in
    ap (λ (k : ℕ). take 4 (drop k (flat_map page_bytes (x ∷ xs) ++ zeros rest))) n ∙ ap (λ (bs : List ℕ). take 4 (drop (4 + 4 * i) bs)) whole
    ∙ ap (take 4) (sym (drop-drop (4 * i) 4 (page_bytes x ++ behind)) ∙ ap (drop (4 * i)) (drop_at (page_bytes x) behind 4 refl)) ∙ entries_word xs i rest (omega (arith, room, long))

-- a word behind the fixed part is an entry, or zero
pub entry_word : (fixed : List ℕ) (pages : List (List (Option ℕ))) (word rest : ℕ) → length fixed ≡ 5120 → 1280 ≤ word → 4 * word + 4 ≤ length fixed + length (page_list_bytes pages) + rest
    → to_le_bytes w32 (entry_in (all_blocks pages) (word - 1280)) ≡ take 4 (drop (4 * word) (fixed ++ page_list_bytes pages ++ zeros rest))
entry_word fixed pages word rest long behind room =
    let i : ℕ = word - 1280 in
    let entries = flat_map page_bytes (all_blocks pages) in
    let n : 4 * word ≡ 5120 + 4 * i = omega arith in
    let list = listed_whole pages in
    let whole : fixed ++ page_list_bytes pages ++ zeros rest ≡ fixed ++ (entries ++ zeros rest) = append_assoc fixed (page_list_bytes pages) (zeros rest) ∙ ap (λ (bs : List ℕ). fixed ++ (bs ++ zeros rest)) list in
    sym
    (ap (λ (k : ℕ). take 4 (drop k (fixed ++ page_list_bytes pages ++ zeros rest))) n ∙ ap (λ (bs : List ℕ). take 4 (drop (5120 + 4 * i) bs)) whole
    ∙ ap (take 4) (sym (drop-drop (4 * i) 5120 (fixed ++ (entries ++ zeros rest))) ∙ ap (drop (4 * i)) (drop_at fixed (entries ++ zeros rest) 5120 long))
    ∙ entries_word (all_blocks pages) i rest (omega (arith, room, ap length list, long)))

-- ---- a page, word by word

none_taken : (b : ℕ) → take {A = ℕ} b [] ≡ []
none_taken zero = refl
none_taken (suc b) = refl

pub take-add : (a b : ℕ) (xs : List ℕ) → take (a + b) xs ≡ take a xs ++ take b (drop a xs)
take-add zero b xs = let e : zero + b ≡ b = omega arith in ap (λ (k : ℕ). take k xs) e
take-add (suc a) b [] = let e : suc a + b ≡ suc (a + b) = omega arith in ap (λ (k : ℕ). take k []) e ∙ sym (none_taken b)
take-add (suc a) b (x ∷ xs) = let e : suc a + b ≡ suc (a + b) = omega arith in ap (λ (k : ℕ). take k (x ∷ xs)) e ∙ ap (λ (ys : List ℕ). x ∷ ys) (take-add a b xs)

-- a block is whole words
pub four_words : (size : ℕ) → IsBlockSize size → 4 * (size / 4) ≡ size
four_words size h = elim (or_cases (size == 512) (size == 4096) h) [
  | inl small ↦ (let e : size ≡ 512 = eqb-true size 512 small in omega (arith, e))
  | inr large ↦ (let e : size ≡ 4096 = eqb-true size 4096 large in omega (arith, e))
]

pub word_place : (number size i : ℕ) → IsBlockSize size → 4 * (number * (size / 4) + i) ≡ number * size + 4 * i
word_place number size i h =
    let e = four_words size h in
    let there : 4 * (number * (size / 4) + i) ≡ number * (4 * (size / 4)) + 4 * i = omega arith in
    there ∙ ap (λ (n : ℕ). number * n + 4 * i) e

-- a word that is put changes no size
pub put_size : (i size : ℕ) (word old new : List ℕ) → length old ≡ size → 4 * i + 4 ≤ size → length word ≡ 4 → new ≡ placed (4 * i) word old → length new ≡ size
put_size i size word old new long room four grown = ap length grown ∙ length-placed (4 * i) word old (omega (arith, long, room, four)) ∙ long

-- so many bytes of a page were written
pub put_next : (i at size : ℕ) (word old new whole : List ℕ) → length old ≡ size → 4 * i + 4 ≤ size → length word ≡ 4 → word ≡ take 4 (drop (at + 4 * i) whole) → take (4 * i) old ≡ take (4 * i) (drop at whole)
    → new ≡ placed (4 * i) word old → take (4 * (i + 1)) new ≡ take (4 * (i + 1)) (drop at whole)
unfolding placed
put_next i at size word old new whole long room four read so_far grown =
    let n : 4 * (i + 1) ≡ 4 * i + 4 = omega arith in
    let front = take (4 * i) old in
    let size_front : length front ≡ 4 * i = length-take-le (4 * i) old (omega arith) in
    let behind = drop (4 * i + length word) old in
    let whole_new : new ≡ front ++ word ++ behind = grown in
    let size_both : length (front ++ word) ≡ 4 * i + 4 = length-append front word ∙ omega (arith, size_front, four) in
    ap (λ (k : ℕ). take k new) n ∙ ap (take (4 * i + 4)) whole_new ∙ take_at (front ++ word) behind (4 * i + 4) size_both
    ∙ (λ i₁. so_far i₁ ++ (read ∙ ap (take 4) (sym (drop-drop (4 * i) at whole))) i₁) ∙ sym (take-add (4 * i) 4 (drop at whole)) ∙ ap (λ (k : ℕ). take k (drop at whole)) (sym n)
