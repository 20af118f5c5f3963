-- The system areas of a flash: which are sealed, and which is current.
use Rattle.std.specs.Prelude.{ℕ, suc, ◌+◌, ◌*◌, Bool, false, ◌&&◌, List, [], ◌∷◌, ◌++◌, length, take, drop, ◌==◌, bytes_eq, nat_lt, Option, Some, None, if◌then◌else◌, slice_get, option_map}
use Rattle.std.specs.Option.{option_and_then, option_map_or}
use Rattle.fdp_base.specs.declared.config.Geometry.{Geometry}
use Rattle.fdp_base.specs.Geometry.{area_pages, data_units}
use Rattle.fdp_flash.specs.declared.cell.Cell.{Cell}
use Rattle.fdp_flash.specs.declared.cell.Cell.TheVariants.{Blank, Torn, Whole}
use Rattle.fdp_flash.specs.Layout.{first_page}
use Rattle.fdp_records.specs.declared.spare.Stamp.{Stamp}
use Rattle.fdp_records.specs.declared.spare.SystemKind.{SystemKind}
use Rattle.fdp_records.specs.declared.spare.SystemKind.TheVariants.{Checkpoint, Journal, Seal}
use Rattle.fdp_records.specs.declared.spare.SystemSpare.{SystemSpare}
use Rattle.fdp_records.specs.Spares.{said_by_system, system_code, system_spare}
use Rattle.fdp_image.specs.Fields.{are_zeros}

-- the pages of the data units come first
abbrev pub data_pages : Geometry → ℕ
data_pages g = first_page g (data_units g)

-- the first unit of system area 0 or 1
abbrev pub area_unit : Geometry → ℕ → ℕ
area_unit g area = data_units g + area * g.area_units

-- the pages of a system area
unfoldable pub area_of : Geometry → ℕ → List Cell → List Cell
area_of g area cells = take (area_pages g) (drop (first_page g (area_unit g area)) cells)

-- the bytes of a page that is whole and has this kind and number and this version and epoch
unfoldable pub page_bytes : SystemKind → ℕ → Stamp → Cell → Option (List ℕ)
page_bytes kind number t Blank = None
page_bytes kind number t Torn = None
page_bytes kind number t (Whole spare bytes) =
    if bytes_eq (system_spare (record { kind = kind; number = number; stamp = t })) spare then Some bytes else None

-- one element more, or none from here on
abbrev pub more : {X : Type 0} → Option X → List X → List X
more None xs = []
more (Some x) xs = x ∷ xs

-- the pages of a kind that come first, numbered on from a number
unfoldable pub leading : SystemKind → ℕ → Stamp → List Cell → List (List ℕ)
leading kind number t [] = []
leading kind number t (cell ∷ cells) = more (page_bytes kind number t cell) (leading kind (suc number) t cells)

-- an area that is sealed: its version and epoch, its checkpoint pages, how many of its journal pages stand before the seal, and its journal pages in order
pub record Sealed : Type 0 where
  pub stamp : Stamp
  pub checkpoint : List (List ℕ)
  pub before : ℕ
  pub journal : List (List ℕ)

-- where a journal page stands in its area, by its number: behind so many checkpoint pages, and behind the seal too where so many stand before it
abbrev pub record_page : ℕ → ℕ → ℕ → ℕ
record_page checkpoint before number = if nat_lt number before then checkpoint + number else suc checkpoint + number

-- the page is the seal with this number: its bytes are zero
abbrev pub is_seal : Stamp → ℕ → Cell → Bool
is_seal t number cell = option_map_or are_zeros (page_bytes Seal number t cell) false

-- the area as it is sealed behind these checkpoint pages and these journal pages, with the journal pages behind the seal
unfoldable pub sealed_behind : List Cell → Stamp → List (List ℕ) → List (List ℕ) → Option Sealed
sealed_behind cells t checkpoint before =
    let count = length checkpoint + length before in
    if option_map_or (is_seal t count) (slice_get cells count) false
    then Some (record { stamp = t; checkpoint = checkpoint; before = length before; journal = before ++ leading Journal (length before) t (drop (suc count) cells) })
    else None

-- the journal pages that come right behind the checkpoint pages: those before the seal
abbrev pub pages_before : List Cell → Stamp → List (List ℕ) → List (List ℕ)
pages_before cells t checkpoint = leading Journal 0 t (drop (length checkpoint) cells)

-- the area as it is sealed with this version and epoch: behind its checkpoint pages and the journal pages that follow them
unfoldable pub sealed_by : List Cell → Stamp → Option Sealed
sealed_by cells t = sealed_behind cells t (leading Checkpoint 0 t cells) (pages_before cells t (leading Checkpoint 0 t cells))

-- the versions of an image that are read
abbrev pub is_known_version : ℕ → Bool
is_known_version version = version == 1

-- the version and epoch of a spare that is that of a first checkpoint page
abbrev pub first_stamp : SystemSpare → Option Stamp
first_stamp s =
    if system_code s.kind == system_code Checkpoint && s.number == 0 && is_known_version s.stamp.version
    then Some s.stamp
    else None

-- the version and epoch of the first checkpoint page
abbrev pub stamp_of : Cell → Option Stamp
stamp_of Blank = None
stamp_of Torn = None
stamp_of (Whole spare bytes) = option_and_then first_stamp (said_by_system spare)

-- the area, if it is sealed
unfoldable pub sealed_in : List Cell → Option Sealed
sealed_in cells = option_and_then (sealed_by cells) (option_and_then stamp_of (slice_get cells 0))

-- a system area by its number, if it is sealed
abbrev pub sealed_at : Geometry → List Cell → ℕ → Option (ℕ × Sealed)
sealed_at g cells area = option_map (λ x. (area, x)) (sealed_in (area_of g area cells))

-- of two sealed areas the one with the higher epoch, the first where they are equal
abbrev pub later_of : Option (ℕ × Sealed) → Option (ℕ × Sealed) → Option (ℕ × Sealed)
later_of None y = y
later_of (Some x) None = Some x
later_of (Some x) (Some y) = if nat_lt x.1.stamp.epoch y.1.stamp.epoch then Some y else Some x

-- the number of the current area and what it holds, if one is sealed
unfoldable pub current_area : Geometry → List Cell → Option (ℕ × Sealed)
current_area g cells = later_of (sealed_at g cells 0) (sealed_at g cells 1)
