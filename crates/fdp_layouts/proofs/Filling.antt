-- Fields laid into a frame, and read out of it.
use Rattle.std.proofs.Common.{◌≡◌, ℕ, zero, suc, ◌+◌, ◌-◌, ◌*◌, ◌/◌, ◌%◌, ◌^◌, ◌<◌, ◌≤◌, Bool, true, false, ◌&&◌, ◌||◌, IsTrue, List, [], ◌∷◌, length, get_or, take, drop, refl, sym, ap, subst, ◌∙◌, leb, eqb, arith, inl, inr, ◌⊎◌}
use Rattle.std.specs.List.{list_any}
use Rattle.std.proofs.lemmas.Bool.{cases_Bool, leb-true, eqb-true}
use Rattle.std.proofs.Math.Nat.{pow-suc}
use Rattle.std.proofs.lemmas.Bool.Decides.{nat_tests}
use Rattle.std.proofs.lemmas.Nat.{pow-add}
use Rattle.std.proofs.lemmas.List.{ext_get_or, places, get_or-drop, get_or-take, length-drop, append-nil}
use Rattle.byteorder.specs.Endian.{little_from, little_number, little_bytes}
use Rattle.byteorder.specs.Numbers.{little_number-reads_back, length-bytes_low_first}
use Rattle.fdp_layouts.specs.declared.span.Span.{Span}
use Rattle.fdp_layouts.specs.Frame.{Part, Field, bits_of, size, packed, unpacked, number_at, placed, filled, held, numbers_in, span_of, spans_of, covers, PartsFit, Fits, ascend}
use Rattle.fdp_layouts.proofs.Bytes.{IsBytes, bytes_of_number, little_from-same}
use Rattle.fdp_layouts.proofs.Parts.{packed-unpacked, unpacked-packed, packed_below}

-- ---- one field

pub length-placed : (at : ℕ) (bs xs : List ℕ) → at + length bs ≤ length xs → length (placed at bs xs) ≡ length xs
unfolding placed
length-placed at bs xs fits = grind (arith, places)

placed-inside : (at : ℕ) (bs xs : List ℕ) (i : ℕ) → at + length bs ≤ length xs → at ≤ i → i < at + length bs → get_or (placed at bs xs) i 0 ≡ get_or bs (i - at) 0
unfolding placed
placed-inside at bs xs i fits lo hi = grind (arith, places)

placed-below : (at : ℕ) (bs xs : List ℕ) (i : ℕ) → at + length bs ≤ length xs → i < at → get_or (placed at bs xs) i 0 ≡ get_or xs i 0
unfolding placed
placed-below at bs xs i fits lo = grind (arith, places)

placed-above : (at : ℕ) (bs xs : List ℕ) (i : ℕ) → at + length bs ≤ length xs → at + length bs ≤ i → get_or (placed at bs xs) i 0 ≡ get_or xs i 0
unfolding placed
placed-above at bs xs i fits hi = grind (arith, places)

covered : (i : ℕ) (s : Span) → covers i s ≡ true → (s.at ≤ i) × (i < s.at + s.len)
covered i s e = grind (arith, nat_tests)

not_covered : (i : ℕ) (s : Span) → covers i s ≡ false → (i < s.at) ⊎ (s.at + s.len ≤ i)
not_covered i s e = grind (arith, nat_tests)

placed-outside : (f : Field) (bs xs : List ℕ) (i : ℕ) → length bs ≡ size f → f.at + size f ≤ length xs → covers i (span_of f) ≡ false → get_or (placed f.at bs xs) i 0 ≡ get_or xs i 0
placed-outside f bs xs i len fits out =
    elim (not_covered i (span_of f) out) [
      | inl below ↦ placed-below f.at bs xs i (omega arith) below
      | inr above ↦ placed-above f.at bs xs i (omega arith) (omega arith)
    ]

pub IsBytes-drop : (n : ℕ) (xs : List ℕ) → IsBytes xs → IsBytes (drop n xs)
IsBytes-drop n xs h i = rw get_or-drop (h (n + i))

-- the bytes of the numbers that a field holds are its bytes
field_bytes : (ps : List Part) (at : ℕ) (bytes : List ℕ) → at + bits_of ps / 8 ≤ length bytes → IsBytes bytes
    → little_bytes (bits_of ps / 8) (packed ps (unpacked ps (number_at at (bits_of ps / 8) bytes))) ≡ take (bits_of ps / 8) (drop at bytes)
unfolding number_at
field_bytes [] at bytes fits h = refl
field_bytes (p ∷ ps) at bytes fits h =
    let k = bits_of (p ∷ ps) / 8 in
    let long : k ≤ length (drop at bytes) = omega (arith, length-drop at bytes) in
    ap (little_bytes k) (packed-unpacked p ps (little_number k (drop at bytes))) ∙ bytes_of_number k (drop at bytes) long (IsBytes-drop at bytes h)

-- ---- all fields

pub record Ascends (from len : ℕ) (f : Field) (fs : List Field) : Type 0 where
  pub above : from ≤ f.at
  pub whole : bits_of f.parts % 8 ≡ 0
  pub others : IsTrue (ascend (f.at + size f) len fs)

and_true : (a b : Bool) → (a && b) ≡ true → (a ≡ true) × (b ≡ true)
and_true true b e = (refl, e)
and_true false b e = absurd cc

ascends : (from len : ℕ) (f : Field) (fs : List Field) → IsTrue (ascend from len (f ∷ fs)) → Ascends from len f fs
ascends from len f fs h =
    let p = and_true (leb from f.at && eqb (bits_of f.parts % 8) 0) (ascend (f.at + size f) len fs) h in
    let q = and_true (leb from f.at) (eqb (bits_of f.parts % 8) 0) p.0 in
    record { above = leb-true _ _ q.0; whole = eqb-true _ _ q.1; others = p.1 }

ascend_fits : (from len : ℕ) (fields : List Field) → IsTrue (ascend from len fields) → from ≤ len
ascend_fits from len [] h = grind (arith, nat_tests)
ascend_fits from len (f ∷ fs) h =
    let a = ascends from len f fs h in
    let rest = ascend_fits (f.at + size f) len fs a.others in
    omega (arith, a.above)

or_false : (a b : Bool) → (a || b) ≡ false → (a ≡ false) × (b ≡ false)
or_false true b e = absurd cc
or_false false b e = (refl, e)

false_or : (a b : Bool) → a ≡ false → b ≡ false → (a || b) ≡ false
false_or a b e h = rw (e, h) refl

-- the frame of the numbers that a frame holds is that frame, where its other bytes are zero
pub filled_again : (fields : List Field) (bytes xs : List ℕ) (from len : ℕ) → length xs ≡ len → length bytes ≡ len → IsBytes bytes → IsTrue (ascend from len fields)
    → ((i : ℕ) → i < len → list_any (covers i) (spans_of fields) ≡ false → get_or xs i 0 ≡ get_or bytes i 0)
    → filled fields (numbers_in fields bytes) xs ≡ bytes
filled_again [] bytes xs from len lx lb h asc same = ext_get_or 0 xs bytes (lx ∙ sym lb) (λ i lt. same i (omega arith) refl)
filled_again (f ∷ fs) bytes xs from len lx lb h asc same =
    let a = ascends from len f fs asc in
    let end = ascend_fits (f.at + size f) len fs a.others in
    let bs = little_bytes (size f) (packed f.parts (held f bytes)) in
    let size-is : length bs ≡ size f = length-bytes_low_first 0 (size f) (packed f.parts (held f bytes)) in
    let is : bs ≡ take (size f) (drop f.at bytes) = field_bytes f.parts f.at bytes (omega arith) h in
    let next = length-placed f.at bs xs (omega arith) in
    filled_again fs bytes (placed f.at bs xs) (f.at + size f) len (next ∙ lx) lb h a.others
    (λ i lt out. elim (cases_Bool (covers i (span_of f))) [
      | inl here ↦
          let c = covered i (span_of f) here in
          let inside = placed-inside f.at bs xs i (omega arith) c.0 (omega (arith, c.1)) in
          let read : get_or bs (i - f.at) 0 ≡ get_or bytes i 0 =
          ap (λ (l : List ℕ). get_or l (i - f.at) 0) is
          ∙ get_or-take (size f) (drop f.at bytes) (i - f.at) 0 (omega (arith, c.1))
          ∙ get_or-drop f.at bytes (i - f.at) 0
          ∙ ap (λ (k : ℕ). get_or bytes k 0) (omega (arith, c.0)) in
          inside ∙ read
      | inr there ↦ placed-outside f bs xs i size-is (omega arith) there ∙ same i lt (false_or _ _ there out)
    ])

-- a byte of no field stays
pub filled-outside : (fields : List Field) (vss : List (List ℕ)) (xs : List ℕ) (from len i : ℕ) → length xs ≡ len → IsTrue (ascend from len fields)
    → list_any (covers i) (spans_of fields) ≡ false → get_or (filled fields vss xs) i 0 ≡ get_or xs i 0
filled-outside [] vss xs from len i lx asc out = refl
filled-outside (f ∷ fs) [] xs from len i lx asc out = refl
filled-outside (f ∷ fs) (vs ∷ vss) xs from len i lx asc out =
    let a = ascends from len f fs asc in
    let end = ascend_fits (f.at + size f) len fs a.others in
    let bs = little_bytes (size f) (packed f.parts vs) in
    let size-is : length bs ≡ size f = length-bytes_low_first 0 (size f) (packed f.parts vs) in
    let o = or_false _ _ out in
    filled-outside fs vss (placed f.at bs xs) (f.at + size f) len i (length-placed f.at bs xs (omega arith) ∙ lx) a.others o.1
    ∙ placed-outside f bs xs i size-is (omega arith) o.0

below_covers : (i : ℕ) (s : Span) → i < s.at → covers i s ≡ false
below_covers i s lt = grind (arith, nat_tests)

-- a byte below the fields is of none
below_all : (fields : List Field) (from len i : ℕ) → IsTrue (ascend from len fields) → i < from → list_any (covers i) (spans_of fields) ≡ false
below_all [] from len i asc lt = refl
below_all (f ∷ fs) from len i asc lt =
    let a = ascends from len f fs asc in
    let rest = below_all fs (f.at + size f) len i a.others (omega (arith, a.above)) in
    let here : covers i (span_of f) ≡ false = below_covers i (span_of f) (omega (arith, a.above)) in
    false_or _ _ here rest

pow_eight : (k : ℕ) → 2 ^ (8 * k) ≡ 256 ^ k
pow_eight zero = refl
pow_eight (suc k) =
    let turned : 8 * suc k ≡ 8 * k + 8 = omega arith in
    let rest = pow_eight k in
    rw (turned, pow-add 2 (8 * k) 8, rest, pow-suc 256 k) refl

packed_fits : (f : Field) (vs : List ℕ) → bits_of f.parts % 8 ≡ 0 → PartsFit f.parts vs → packed f.parts vs < 256 ^ size f
packed_fits f vs whole fits =
    let bits : bits_of f.parts ≡ 8 * size f = omega arith in
    let lt = packed_below f.parts vs fits in
    subst (λ (k : ℕ). packed f.parts vs < k) (ap (λ (k : ℕ). 2 ^ k) bits ∙ pow_eight (size f)) lt

-- the numbers that were laid are read
pub numbers_again : (fields : List Field) (vss : List (List ℕ)) (xs : List ℕ) (from len : ℕ) → length xs ≡ len → IsTrue (ascend from len fields) → Fits fields vss
    → numbers_in fields (filled fields vss xs) ≡ vss
unfolding number_at
numbers_again [] [] xs from len lx asc fits = refl
numbers_again [] (vs ∷ vss) xs from len lx asc fits = absurd fits
numbers_again (f ∷ fs) [] xs from len lx asc fits = absurd fits
numbers_again (f ∷ fs) (vs ∷ vss) xs from len lx asc fits =
    let a = ascends from len f fs asc in
    let end = ascend_fits (f.at + size f) len fs a.others in
    let n = packed f.parts vs in
    let bs = little_bytes (size f) n in
    let size-is : length bs ≡ size f = length-bytes_low_first 0 (size f) n in
    let ys = placed f.at bs xs in
    let ly : length ys ≡ len = length-placed f.at bs xs (omega arith) ∙ lx in
    let whole = filled fs vss ys in
    let rest = numbers_again fs vss ys (f.at + size f) len ly a.others fits.1 in
    let fit : n < 256 ^ size f = packed_fits f vs a.whole fits.0 in
    let same : little_from 0 (size f) (drop f.at whole) ≡ little_from 0 (size f) bs = little_from-same 0 (size f) (drop f.at whole) bs
    (λ k lo hi.
    let kept = filled-outside fs vss ys (f.at + size f) len (f.at + k) ly a.others (below_all fs (f.at + size f) len (f.at + k) a.others (omega arith)) in
    let inside = placed-inside f.at bs xs (f.at + k) (omega arith) (omega arith) (omega arith) in
    get_or-drop f.at whole k 0 ∙ kept ∙ inside ∙ ap (λ (j : ℕ). get_or bs j 0) (omega arith)) in
    let back : little_from 0 (size f) bs ≡ n = ap (little_from 0 (size f)) (sym (append-nil bs)) ∙ little_number-reads_back (size f) n [] fit in
    let reads : number_at f.at (size f) whole ≡ n = same ∙ back in
    let here : held f whole ≡ vs = ap (unpacked f.parts) reads ∙ unpacked-packed f.parts vs fits.0 in
    rw (here, rest) refl
