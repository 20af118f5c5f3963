-- Pieces of bytes that are put into a part of them.
use Rattle.std.proofs.Common.{◌≡◌, ℕ, ◌+◌, ◌-◌, ◌*◌, ◌<◌, ◌≤◌, List, [], ◌∷◌, ◌++◌, length, take, drop, get_or, min, refl, sym, ap, subst, ◌∙◌, append_assoc, arith, add-one, zero-add, suc, zero, ◌⊎◌, ⊎_elim}
use Rattle.std.specs.Prelude.{flat_map}
use Rattle.std.proofs.lemmas.Bool.{cases_lt}
use Rattle.std.proofs.lemmas.List.{append-nil, ext_get_or, get_or-append_right, get_or-drop, get_or-replicate, get_or-take, get_or_append_left, get_or_past, length-append, length-drop, length-replicate, length-take-le, take-append-drop, take_more, take_all, flat_map_more}
use Rattle.std.proofs.lemmas.List.Concat.{flat_map-cons}
use Rattle.fdp_base.specs.Numbers.{numbers_below, numbers_from}
use Rattle.fdp_rules.specs.LogPages.{zeros}
use Rattle.fdp_pieces.specs.Parts.{PutsPiece, part_of}

-- ---- the bytes of a part

zero_at : (n i : ℕ) → get_or (zeros n) i 0 ≡ 0
zero_at n i =
    ⊎_elim
    (λ (below : i < n). get_or-replicate n i 0 0 below)
    (λ (past : n ≤ i). get_or_past (zeros n) i 0 (subst (λ (k : ℕ). k ≤ i) (sym (length-replicate {A = ℕ} n 0)) past))
    (cases_lt i n)

filled_at : (xs : List ℕ) (n i : ℕ) → get_or (xs ++ zeros n) i 0 ≡ get_or xs i 0
filled_at xs n i =
    ⊎_elim
    (λ (below : i < length xs). get_or_append_left xs (zeros n) 0 i below)
    (λ (past : length xs ≤ i). get_or-append_right xs (zeros n) (length xs) i 0 refl past ∙ zero_at n (i - length xs) ∙ sym (get_or_past xs i 0 past))
    (cases_lt i (length xs))

part_at : (offset size : ℕ) (bytes : List ℕ) (i : ℕ) → i < size → get_or (part_of offset size bytes) i 0 ≡ get_or bytes (offset + i) 0
part_at offset size bytes i below =
    get_or-take size (drop offset bytes ++ zeros size) i 0 below ∙ filled_at (drop offset bytes) size i ∙ get_or-drop offset bytes i 0

pub part_length : (offset size : ℕ) (bytes : List ℕ) → length (part_of offset size bytes) ≡ size
part_length offset size bytes =
    let whole : length (drop offset bytes ++ zeros size) ≡ length (drop offset bytes) + size = length-append (drop offset bytes) (zeros size) ∙ ap (λ (n : ℕ). length (drop offset bytes) + n) (length-replicate size 0) in
    length-take-le size (drop offset bytes ++ zeros size) (omega (arith, whole))

-- a list with each byte of a part is the part
part_is : (offset size : ℕ) (bytes xs : List ℕ) → length xs ≡ size → ((i : ℕ) → i < size → get_or xs i 0 ≡ get_or bytes (offset + i) 0) → xs ≡ part_of offset size bytes
part_is offset size bytes xs long each =
    ext_get_or 0 xs (part_of offset size bytes) (long ∙ sym (part_length offset size bytes))
    (λ i below. let inside : i < size = omega (arith, below, long) in each i inside ∙ sym (part_at offset size bytes i inside))

-- zeros hold the part of no bytes
pub part_of_nothing : (offset size : ℕ) → zeros size ≡ part_of offset size []
part_of_nothing offset size = part_is offset size [] (zeros size) (length-replicate size 0) (λ i below. zero_at size i)

-- zeros behind the bytes are there already
pub zeros_behind : (offset at count : ℕ) (old : List ℕ) → PutsPiece offset at (zeros count) old old
zeros_behind offset at count old = record {
  size = refl;
  part = λ before long is.
      part_is offset (length old) (before ++ zeros count) old refl
      (λ i below. ap (λ (xs : List ℕ). get_or xs i 0) is ∙ part_at offset (length old) before i below ∙ sym (filled_at before count (offset + i)));
}

-- ---- pieces one behind another

pub puts_nothing : (offset at : ℕ) (old : List ℕ) → PutsPiece offset at [] old old
puts_nothing offset at old = record { size = refl; part = λ before long is. is ∙ ap (part_of offset (length old)) (sym (append-nil before)) }

pub puts_both : (offset at : ℕ) (a b old mid new : List ℕ) → PutsPiece offset at a old mid → PutsPiece offset (at + length a) b mid new → PutsPiece offset at (a ++ b) old new
puts_both offset at a b old mid new first second = record {
  size = second.size ∙ first.size;
  part = λ before long is.
      let half = first.part before long is in
      let place : length (before ++ a) ≡ at + length a = length-append before a ∙ ap (λ (n : ℕ). n + length a) long in
      let again : mid ≡ part_of offset (length mid) (before ++ a) = half ∙ ap (λ (n : ℕ). part_of offset n (before ++ a)) (sym first.size) in
      second.part (before ++ a) place again
      ∙ ap (λ (n : ℕ). part_of offset n (before ++ a ++ b)) first.size
      ∙ ap (part_of offset (length old)) (append_assoc before a b);
}

-- all pieces of a page, put into zeros, are the part of it
pub puts_whole : (offset : ℕ) (page old new : List ℕ) → old ≡ zeros (length old) → PutsPiece offset 0 page old new → new ≡ part_of offset (length old) page
puts_whole offset page old new empty puts = puts.part [] refl (empty ∙ part_of_nothing offset (length old))

-- ---- one piece

-- a byte of a list in which some were replaced
replaced_inside : (start : ℕ) (bytes old : List ℕ) (i : ℕ) → start + length bytes ≤ length old → start ≤ i → i < start + length bytes → get_or (take start old ++ bytes ++ drop (start + length bytes) old) i 0 ≡ get_or bytes (i - start) 0
replaced_inside start bytes old i fits above below =
    let front = length-take-le start old (omega (arith, fits)) in
    let ends = length-append (take start old) bytes in
    get_or_append_left (take start old ++ bytes) (drop (start + length bytes) old) 0 i (omega (arith, below, front, ends))
    ∙ get_or-append_right (take start old) bytes start i 0 front above

replaced_before : (start : ℕ) (bytes old : List ℕ) (i : ℕ) → start + length bytes ≤ length old → i < start → get_or (take start old ++ bytes ++ drop (start + length bytes) old) i 0 ≡ get_or old i 0
replaced_before start bytes old i fits below =
    let front = length-take-le start old (omega (arith, fits)) in
    let ends = length-append (take start old) bytes in
    get_or_append_left (take start old ++ bytes) (drop (start + length bytes) old) 0 i (omega (arith, below, front, ends))
    ∙ get_or_append_left (take start old) bytes 0 i (omega (arith, below, front))
    ∙ get_or-take start old i 0 below

replaced_behind : (start : ℕ) (bytes old : List ℕ) (i : ℕ) → start + length bytes ≤ length old → start + length bytes ≤ i → get_or (take start old ++ bytes ++ drop (start + length bytes) old) i 0 ≡ get_or old i 0
replaced_behind start bytes old i fits above =
    let front = length-take-le start old (omega (arith, fits)) in
    let ends : length (take start old ++ bytes) ≡ start + length bytes = length-append (take start old) bytes ∙ ap (λ (n : ℕ). n + length bytes) front in
    let place : start + length bytes + (i - (start + length bytes)) ≡ i = omega (arith, above) in
    get_or-append_right (take start old ++ bytes) (drop (start + length bytes) old) (start + length bytes) i 0 ends above
    ∙ get_or-drop (start + length bytes) old (i - (start + length bytes)) 0
    ∙ ap (λ (k : ℕ). get_or old k 0) place

-- how many bytes of a piece lie before the part, where its first byte in the buffer stands, and how many stand there
pub record IsCut (offset at size whole skipped start count : ℕ) : Type 0 where
  pub skipped_is : skipped ≡ min (offset - at) whole
  pub start_is : start ≡ min (at - offset) size
  pub count_is : count ≡ min (whole - skipped) (size - start)

-- the byte of the whole at a place that lies in the piece or behind it
behind_at : (before piece : List ℕ) (k : ℕ) → length before ≤ k → get_or (before ++ piece) k 0 ≡ get_or piece (k - length before) 0
behind_at before piece k past = get_or-append_right before piece (length before) k 0 refl past

cut_at : (offset at skipped start count : ℕ) (piece bytes old before : List ℕ) (i : ℕ) → IsCut offset at (length old) (length piece) skipped start count
    → bytes ≡ take count (drop skipped piece) → length bytes ≡ count → i < length old → length before ≡ at
    → get_or old i 0 ≡ get_or before (offset + i) 0
    → get_or (take start old ++ bytes ++ drop (start + length bytes) old) i 0 ≡ get_or (before ++ piece) (offset + i) 0
cut_at offset at skipped start count piece bytes old before i cut bytes_are count_is below long is =
    let fits : start + length bytes ≤ length old = omega (arith, count_is, cut.start_is, cut.count_is) in
    ⊎_elim
    (λ (early : offset + i < at).
    replaced_before start bytes old i fits (omega (arith, early, below, cut.start_is))
    ∙ is ∙ sym (get_or_append_left before piece 0 (offset + i) (omega (arith, early, long))))
    (λ (late : at ≤ offset + i).
    let past : length before ≤ offset + i = omega (arith, late, long) in
    ⊎_elim
    (λ (inside : i < start + length bytes).
    let here : i < start + count = omega (arith, inside, count_is) in
    let above : start ≤ i = omega (arith, late, cut.start_is) in
    let place : skipped + (i - start) ≡ offset + i - length before = omega (arith, late, here, above, long, below, cut.skipped_is, cut.start_is, cut.count_is) in
    replaced_inside start bytes old i fits above inside
    ∙ ap (λ (xs : List ℕ). get_or xs (i - start) 0) bytes_are
    ∙ get_or-take count (drop skipped piece) (i - start) 0 (omega (arith, here, above))
    ∙ get_or-drop skipped piece (i - start) 0
    ∙ ap (λ (k : ℕ). get_or piece k 0) place
    ∙ sym (behind_at before piece (offset + i) past))
    (λ (behind : start + length bytes ≤ i).
    let far : start + count ≤ i = omega (arith, behind, count_is) in
    let out : length piece ≤ offset + i - length before = omega (arith, late, far, below, long, cut.skipped_is, cut.start_is, cut.count_is) in
    replaced_behind start bytes old i fits behind
    ∙ is ∙ get_or_past before (offset + i) 0 past
    ∙ sym (behind_at before piece (offset + i) past ∙ get_or_past piece (offset + i - length before) 0 out))
    (cases_lt i (start + length bytes)))
    (cases_lt (offset + i) at)

pub puts_cut : (offset at skipped start count : ℕ) (piece bytes old new : List ℕ) → IsCut offset at (length old) (length piece) skipped start count
    → bytes ≡ take count (drop skipped piece) → new ≡ take start old ++ bytes ++ drop (start + length bytes) old → PutsPiece offset at piece old new
puts_cut offset at skipped start count piece bytes old new cut bytes_are is =
    let count_is : length bytes ≡ count = ap length bytes_are ∙ length-take-le count (drop skipped piece) (omega (arith, length-drop skipped piece, cut.count_is, cut.skipped_is)) in
    let front = length-take-le start old (omega (arith, cut.start_is)) in
    let ends = length-append (take start old) bytes in
    let whole : length new ≡ length old = ap length is ∙ omega (arith, length-append (take start old ++ bytes) (drop (start + length bytes) old), length-drop (start + length bytes) old, front, ends, count_is, cut.start_is, cut.count_is) in
    record {
      size = whole;
      part = λ before long old_is.
          part_is offset (length old) (before ++ piece) new whole
          (λ i below. ap (λ (xs : List ℕ). get_or xs i 0) is
          ∙ cut_at offset at skipped start count piece bytes old before i cut bytes_are count_is below long
          (ap (λ (xs : List ℕ). get_or xs i 0) old_is ∙ part_at offset (length old) before i below));
    }

-- a piece that lies outside adds nothing
pub puts_outside : (offset at : ℕ) (piece old : List ℕ) → (length piece ≤ offset - at) ⊎ (length old ≤ at - offset) → PutsPiece offset at piece old old
puts_outside offset at piece old out =
    let skipped = min (offset - at) (length piece) in
    let start = min (at - offset) (length old) in
    let none : 0 ≡ min (length piece - skipped) (length old - start) =
    ⊎_elim (λ (a : length piece ≤ offset - at). omega (arith, a)) (λ (b : length old ≤ at - offset). omega (arith, b)) out in
    let plain : start + 0 ≡ start = omega arith in
    let joined : old ≡ take start old ++ [] ++ drop (start + 0) old =
    sym (ap (λ (n : ℕ). take start old ++ [] ++ drop n old) plain ∙ ap (λ (xs : List ℕ). xs ++ drop start old) (append-nil (take start old)) ∙ take-append-drop start old) in
    puts_cut offset at skipped start 0 piece [] old old (record { skipped_is = refl; start_is = refl; count_is = none }) refl joined

-- ---- pieces of the elements of a list

-- pieces of one length
pub even_length : {X : Type 0} (piece : X → List ℕ) (each : ℕ) (xs : List X) → ((x : X) → length (piece x) ≡ each) → length (flat_map piece xs) ≡ each * length xs
even_length piece each [] even = omega arith
even_length piece each (x ∷ xs) even =
    let product : each * length (x ∷ xs) ≡ each + each * length xs = omega arith in
    omega (arith, length-append (piece x) (flat_map piece xs), ap length (flat_map-cons piece x xs), even x, even_length piece each xs even, product)

-- the piece of the element after the first ones
pub puts_next : {X : Type 0} (offset start : ℕ) (piece : X → List ℕ) (xs : List X) (i : ℕ) (d : X) (old mid new : List ℕ) → i < length xs
    → PutsPiece offset start (flat_map piece (take i xs)) old mid → PutsPiece offset (start + length (flat_map piece (take i xs))) (piece (get_or xs i d)) mid new
    → PutsPiece offset start (flat_map piece (take (i + 1) xs)) old new
puts_next {X} offset start piece xs i d old mid new below before more =
    let front = take i xs in
    let is : flat_map piece front ++ piece (get_or xs i d) ≡ flat_map piece (take (i + 1) xs) =
    flat_map_more piece [] front (get_or xs i d) ∙ ap (flat_map piece) (sym (take_more xs i d below)) in
    subst (λ (bytes : List ℕ). PutsPiece offset start bytes old new) is (puts_both offset start (flat_map piece front) (piece (get_or xs i d)) old mid new before more)

-- the same of pieces of one length
pub puts_next_even : {X : Type 0} (offset start each : ℕ) (piece : X → List ℕ) (xs : List X) (i at : ℕ) (d : X) (old mid new : List ℕ) → ((x : X) → length (piece x) ≡ each)
    → i < length xs → at ≡ start + each * i → PutsPiece offset start (flat_map piece (take i xs)) old mid → PutsPiece offset at (piece (get_or xs i d)) mid new
    → PutsPiece offset start (flat_map piece (take (i + 1) xs)) old new
puts_next_even {X} offset start each piece xs i at d old mid new even below place before more =
    let front : length (take i xs) ≡ i = length-take-le i xs (omega (arith, below)) in
    let long : length (flat_map piece (take i xs)) ≡ each * i = even_length piece each (take i xs) even ∙ ap (λ (n : ℕ). each * n) front in
    puts_next offset start piece xs i d old mid new below before
    (subst (λ (k : ℕ). PutsPiece offset k (piece (get_or xs i d)) mid new) (place ∙ ap (λ (n : ℕ). start + n) (sym long)) more)

-- all elements were put
pub puts_end : {X : Type 0} (offset start : ℕ) (piece : X → List ℕ) (xs : List X) (i : ℕ) (old new : List ℕ) → length xs ≤ i
    → PutsPiece offset start (flat_map piece (take i xs)) old new → PutsPiece offset start (flat_map piece xs) old new
puts_end {X} offset start piece xs i old new past all =
    subst (λ (ys : List X). PutsPiece offset start (flat_map piece ys) old new) (take_all i xs past) all

-- ---- pieces of the numbers below one

pub numbers_length : (first n : ℕ) → length (numbers_from first n) ≡ n
unfolding numbers_from
numbers_length first zero = refl
numbers_length first (suc n) = ap suc (numbers_length (first + 1) n)

numbers_from_more : (first n : ℕ) → numbers_from first (suc n) ≡ numbers_from first n ++ (first + n) ∷ []
unfolding numbers_from
numbers_from_more first zero = let e : first ≡ first + 0 = omega arith in ap (λ (k : ℕ). k ∷ []) e
numbers_from_more first (suc n) =
    let e : first + 1 + n ≡ first + suc n = omega arith in
    ap (λ (xs : List ℕ). first ∷ xs) (numbers_from_more (first + 1) n ∙ ap (λ (k : ℕ). numbers_from (first + 1) n ++ k ∷ []) e)

numbers_more : (n : ℕ) → numbers_below (n + 1) ≡ numbers_below n ++ n ∷ []
numbers_more n = ap (numbers_from 0) (add-one n) ∙ numbers_from_more 0 n ∙ ap (λ (k : ℕ). numbers_below n ++ k ∷ []) (zero-add n)

pub puts_number : (offset start each : ℕ) (piece : ℕ → List ℕ) (n at : ℕ) (old mid new : List ℕ) → ((x : ℕ) → length (piece x) ≡ each) → at ≡ start + each * n
    → PutsPiece offset start (flat_map piece (numbers_below n)) old mid → PutsPiece offset at (piece n) mid new
    → PutsPiece offset start (flat_map piece (numbers_below (n + 1))) old new
puts_number offset start each piece n at old mid new even place before more =
    let long : length (flat_map piece (numbers_below n)) ≡ each * n = even_length piece each (numbers_below n) even ∙ ap (λ (m : ℕ). each * m) (numbers_length 0 n) in
    let is : flat_map piece (numbers_below n) ++ piece n ≡ flat_map piece (numbers_below (n + 1)) =
    flat_map_more piece [] (numbers_below n) n ∙ ap (flat_map piece) (sym (numbers_more n)) in
    subst (λ (bytes : List ℕ). PutsPiece offset start bytes old new) is
    (puts_both offset start (flat_map piece (numbers_below n)) (piece n) old mid new before
    (subst (λ (k : ℕ). PutsPiece offset k (piece n) mid new) (place ∙ ap (λ (m : ℕ). start + m) (sym long)) more))
