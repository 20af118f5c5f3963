-- A layout: fields at fixed offsets of a frame of bytes, low byte first.
use Rattle.std.specs.Prelude.{◌≡◌, ℕ, ◌+◌, ◌*◌, ◌/◌, ◌%◌, ◌^◌, ◌<◌, Bool, true, false, not, ◌&&◌, ◌==◌, if◌then◌else◌, IsTrue, nat_lt, nat_le, List, [], ◌∷◌, ◌++◌, length, take, drop, replicate, slice_index, Option, Some, None, MatchOption}
use Rattle.std.specs.List.{find, list_any, range_with_len}
use Rattle.byteorder.specs.Endian.{little_number, little_bytes}
use Rattle.fdp_layouts.specs.declared.span.Span.{Span}
use Rattle.fdp_layouts.specs.declared.bad_frame.BadFrame.{BadFrame}
use Rattle.fdp_layouts.specs.declared.bad_frame.BadFrame.TheVariants.{Reserved, Range}

-- some bits of a field, and the numbers that its table names for them
pub record Part : Type 0 where
  pub bits : ℕ
  pub names : ℕ → Bool

-- a field by its offset; its parts stand one above the other, the first in the lowest bits
pub record Field : Type 0 where
  pub at : ℕ
  pub parts : List Part

-- so many bits that may hold any number
abbrev pub any : ℕ → Part
any bits = record { bits = bits; names = λ _. true }

-- so many bits that hold zero
abbrev pub zeros : ℕ → Part
zeros bits = record { bits = bits; names = λ n. n == 0 }

-- a byte that holds one of these codes
abbrev pub code : (ℕ → Bool) → Part
code names = record { bits = 8; names = names }

-- a field of one number of so many bytes
abbrev pub number : ℕ → ℕ → Field
number at bytes = record { at = at; parts = any (8 * bytes) ∷ [] }

-- a field of so many bytes that mean nothing here
abbrev pub opaque : ℕ → ℕ → Field
opaque at bytes = record { at = at; parts = replicate bytes (any 8) }

abbrev pub bits_of : List Part → ℕ
bits_of [] = 0
bits_of (p ∷ ps) = p.bits + bits_of ps

-- the bytes that a field takes
abbrev pub size : Field → ℕ
size f = bits_of f.parts / 8

-- the number of a field whose parts hold these numbers
abbrev pub packed : List Part → List ℕ → ℕ
packed [] vs = 0
packed (p ∷ ps) [] = 0
packed (p ∷ []) (v ∷ vs) = v
packed (p ∷ q ∷ ps) (v ∷ vs) = v + 2 ^ p.bits * packed (q ∷ ps) vs

-- the numbers of the parts of a field that holds this number
abbrev pub unpacked : List Part → ℕ → List ℕ
unpacked [] n = []
unpacked (p ∷ []) n = n ∷ []
unpacked (p ∷ q ∷ ps) n = n % 2 ^ p.bits ∷ unpacked (q ∷ ps) (n / 2 ^ p.bits)

-- the number of so many bytes at an offset
unfoldable pub number_at : ℕ → ℕ → List ℕ → ℕ
number_at at bytes frame = little_number bytes (drop at frame)

-- the frame with these bytes in place of those from an offset on
unfoldable pub placed : ℕ → List ℕ → List ℕ → List ℕ
placed at bytes frame = take at frame ++ bytes ++ drop (at + length bytes) frame

-- the frame with each field in its place
abbrev pub filled : List Field → List (List ℕ) → List ℕ → List ℕ
filled [] vss frame = frame
filled (f ∷ fs) [] frame = frame
filled (f ∷ fs) (vs ∷ vss) frame = filled fs vss (placed f.at (little_bytes (size f) (packed f.parts vs)) frame)

-- the bytes of these fields with these numbers; a byte of no field is zero
abbrev pub frame_of : ℕ → List Field → List (List ℕ) → List ℕ
frame_of len fields numbers = filled fields numbers (replicate len 0)

-- the numbers of a field in a frame
abbrev pub held : Field → List ℕ → List ℕ
held f bytes = unpacked f.parts (number_at f.at (size f) bytes)

-- the numbers of all fields
abbrev pub numbers_in : List Field → List ℕ → List (List ℕ)
numbers_in [] bytes = []
numbers_in (f ∷ fs) bytes = held f bytes ∷ numbers_in fs bytes

-- the bytes of a field
abbrev pub span_of : Field → Span
span_of f = record { at = f.at; len = size f }

abbrev pub spans_of : List Field → List Span
spans_of [] = []
spans_of (f ∷ fs) = span_of f ∷ spans_of fs

abbrev pub covers : ℕ → Span → Bool
covers i span = nat_le span.at i && nat_lt i (span.at + span.len)

-- a byte outside these fields that is not zero
abbrev pub is_stray : List Span → List ℕ → ℕ → Bool
is_stray spans bytes i = not (slice_index bytes i == 0) && not (list_any (covers i) spans)

-- the first such byte
unfoldable pub first_reserved : ℕ → List Span → List ℕ → Option ℕ
first_reserved len spans bytes = find (is_stray spans bytes) (range_with_len 0 len)

-- each part holds a number that its table names
abbrev pub are_named : List Part → List ℕ → Bool
are_named [] vs = true
are_named (p ∷ ps) [] = false
are_named (p ∷ ps) (v ∷ vs) = if p.names v then are_named ps vs else false

-- the first field with a bit or a value that its table does not name
abbrev pub first_unnamed : List Field → List (List ℕ) → Option ℕ
first_unnamed [] vss = None
first_unnamed (f ∷ fs) [] = None
first_unnamed (f ∷ fs) (vs ∷ vss) = if are_named f.parts vs then first_unnamed fs vss else Some f.at

abbrev pub fault_from : Option ℕ → Option ℕ → Option BadFrame
fault_from (Some at) unnamed = Some (Reserved at)
fault_from None (Some at) = Some (Range at)
fault_from None None = None

-- what is wrong with a frame: a reserved byte first, then a field
abbrev pub fault_of : ℕ → List Field → List ℕ → Option BadFrame
fault_of len fields bytes = fault_from (first_reserved len (spans_of fields) bytes) (first_unnamed fields (numbers_in fields bytes))

-- the numbers fit the parts, which name them
abbrev pub PartsFit : List Part → List ℕ → Type 0
PartsFit [] [] = Unit {0}
PartsFit [] (v ∷ vs) = ⊥
PartsFit (p ∷ ps) [] = ⊥
PartsFit (p ∷ ps) (v ∷ vs) = (v < 2 ^ p.bits) × IsTrue (p.names v) × PartsFit ps vs

-- the numbers fit the fields
abbrev pub Fits : List Field → List (List ℕ) → Type 0
Fits [] [] = Unit {0}
Fits [] (vs ∷ vss) = ⊥
Fits (f ∷ fs) [] = ⊥
Fits (f ∷ fs) (vs ∷ vss) = PartsFit f.parts vs × Fits fs vss

-- from an offset on, the fields ascend, take whole bytes and end with the frame
abbrev pub ascend : ℕ → ℕ → List Field → Bool
ascend from len [] = nat_le from len
ascend from len (f ∷ fs) = nat_le from f.at && (bits_of f.parts % 8 == 0) && ascend (f.at + size f) len fs

-- what a code of these parts stands for, or nothing where it has a number that they do not name
abbrev pub ReadsParts : {V : Type 0} → List Part → (V → List ℕ) → ℕ → Option V → Type 0
ReadsParts parts numbers n result =
    MatchOption result (are_named parts (unpacked parts n) ≡ false) (λ v. (are_named parts (unpacked parts n) ≡ true) × (numbers v ≡ unpacked parts n))
