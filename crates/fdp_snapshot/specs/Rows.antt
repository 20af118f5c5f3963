-- The rows of a checkpoint's lists: a configuration's handles, a namespace, the page of a block.
use Rattle.std.specs.Prelude.{ℕ, ◌+◌, ◌-◌, ◌^◌, ◌<◌, ◌≤◌, List, [], ◌∷◌, length, take, ◌==◌, Option, Some, None, if◌then◌else◌, replicate, slice_index}
use Rattle.std.specs.Int.{to_le_bytes, w16, w32, w64}
use Rattle.byteorder.specs.Endian.{little_number}
use Rattle.fdp_snapshot.specs.declared.keys.HandleRow.{HandleRow}
use Rattle.fdp_snapshot.specs.declared.space.Space.{Space}
use Rattle.fdp_records.specs.Bytes.{◌⊕◌, Piece, laid, part, piece, value}
use Rattle.fdp_records.specs.Records.{truth_bytes}

abbrev pub zeros : ℕ → List ℕ
zeros count = replicate count 0

-- a configuration: how many handles 0+1, which are persistently isolated 2+2
abbrev pub configuration_bytes : HandleRow → List ℕ
configuration_bytes x = x.handles ∷ 0 ∷ to_le_bytes w16 x.persistent

abbrev pub configuration_in : List ℕ → HandleRow
configuration_in bytes = record { handles = slice_index bytes 0; persistent = value (2 ⊕ 2) bytes }

-- a namespace: size 0+8, birth 8+8, whether its list was given 16+1, how long that is 17+1, the list from 24 on
abbrev pub space_pieces : Space → List Piece
space_pieces x =
    piece 0 (to_le_bytes w64 x.size) ∷ piece 8 (to_le_bytes w64 x.birth) ∷ piece 16 (truth_bytes x.given) ∷ piece 17 (length x.handles ∷ [])
    ∷ piece 24 (take 16 x.handles) ∷ []

-- the row of a namespace, 40 bytes; zeros where it is not there
unfoldable pub space_bytes : Option Space → List ℕ
space_bytes None = zeros 40
space_bytes (Some x) = laid (space_pieces x) (zeros 40)

-- the namespace in a row, absent where its size is 0
abbrev pub space_in : List ℕ → Option Space
space_in bytes =
    if value (0 ⊕ 8) bytes == 0
    then None
    else Some (record {
      size = value (0 ⊕ 8) bytes;
      birth = value (8 ⊕ 8) bytes;
      given = slice_index bytes 16 == 1;
      handles = part (24 ⊕ slice_index bytes 17) bytes;
    })

-- a namespace that a row has room for: a block at least, and at most sixteen handles
pub record IsRoomySpace (x : Space) : Type 0 where
  pub blocks : 0 < x.size
  pub handles : length x.handles ≤ 16

abbrev pub IsSpaceRow : Option Space → Type 0
IsSpaceRow None = Unit {0}
IsSpaceRow (Some x) = IsRoomySpace x

-- the number that stands for the page of a block: one more than its own, 0 for none
abbrev pub entry_of : Option ℕ → ℕ
entry_of None = 0
entry_of (Some page) = page + 1

abbrev pub page_by : ℕ → Option ℕ
page_by n = if n == 0 then None else Some (n - 1)

abbrev pub page_bytes : Option ℕ → List ℕ
page_bytes page = to_le_bytes w32 (entry_of page)

abbrev pub page_in : List ℕ → Option ℕ
page_in bytes = page_by (little_number 4 bytes)

-- a page whose number has room in 4 bytes
abbrev pub IsEntry : Option ℕ → Type 0
IsEntry page = entry_of page < 2 ^ 32
