-- A run that began with room has it as long as no call fails.
use Rattle.std.specs.Prelude.{◌≡◌, ◌⊎◌, ℕ, ◌≤◌, Bool, IsFalse, IsTrue, List, Some}
use Rattle.std.specs.List.{list_any}
use Rattle.fdp_base.specs.declared.config.DriveConfig.{DriveConfig}
use Rattle.fdp_base.specs.Counts.{Rose}
use Rattle.fdp_base.specs.EntryKinds.{wears_group}
use Rattle.fdp_flash.specs.declared.cell.Cell.{Cell}
use Rattle.fdp_image.specs.Reading.{Reading}
use Rattle.fdp_image.specs.Reads.{reads_as}
use Rattle.fdp_image.specs.Roomy.{IsRoomy}
use Rattle.fdp_book.specs.Book.{BookSeen}
use Rattle.fdp_roominess.specs.Room.{HaveRoom}

-- an image is roomy, by what it reads as
abbrev pub IsRoomyImage : DriveConfig → List Cell → Type 0
IsRoomyImage c cells = (r : Reading) × (reads_as c cells ≡ Some r) × IsRoomy c cells r

-- A run began with room: fresh, or over a roomy image that was told.
abbrev pub BeganRoomy : Bool → BookSeen → Type 0
BeganRoomy told b = IsFalse b.found.is_image ⊎ (IsTrue told × IsRoomyImage b.config b.opened)

-- A run that began with room, over a flash that had counted so many faults when it was handed in and so many now: each group has room while
-- no call failed, and a group was worn only where one did.
pub record KeepsRoom (handed now : ℕ) (told : Bool) (b : BookSeen) : Type 0 where
  pub since : handed ≤ now
  pub room : BeganRoomy told b → (Rose handed now → ⊥) → HaveRoom b.pages
  pub worn : BeganRoomy told b → IsTrue (list_any wears_group b.entries) → Rose handed now

-- a run that began with room wore a group only where a call failed
abbrev pub WearsByFailure : ℕ → ℕ → Bool → BookSeen → Type 0
WearsByFailure handed now told b = BeganRoomy told b → IsTrue (list_any wears_group b.entries) → Rose handed now

-- and where none did, these cells are a roomy image
abbrev pub StaysRoomy : ℕ → ℕ → Bool → BookSeen → List Cell → Type 0
StaysRoomy handed now told b cells = BeganRoomy told b → (Rose handed now → ⊥) → IsRoomyImage b.config cells
