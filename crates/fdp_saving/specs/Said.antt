-- What the two system areas of a drive say.
use Rattle.std.specs.Prelude.{◌≡◌, ◌⊎◌, ℕ, List, length, Contains, Option, Some}
use Rattle.fdp_base.specs.declared.config.DriveConfig.{DriveConfig}
use Rattle.fdp_base.specs.Placement.{geometry_of}
use Rattle.fdp_flash.specs.declared.cell.Cell.{Cell}
use Rattle.fdp_image.specs.Areas.{Sealed, current_area, sealed_at}
use Rattle.fdp_image.specs.Reading.{Reading}
use Rattle.fdp_image.specs.Reads.{reads_as, said_by_area, said_by_current}
use Rattle.fdp_image.specs.Saving.{SameDataPages}
use Rattle.fdp_journal.specs.JournalState.{JournalState}
use Rattle.fdp_saving.specs.Saver.{other_area}

-- what an image would read as if no other area than this were sealed: as the fresh drive, if this one is not and the data pages are blank
abbrev pub said_alone : DriveConfig → ℕ → List Cell → Option Reading
said_alone c area cells = said_by_current c cells (sealed_at (geometry_of c) cells area)

-- an area is current, has no journal page behind its seal, and says this
pub record IsTried (c : DriveConfig) (area : ℕ) (cells : List Cell) (tried : Reading) : Type 0 where
  pub sealed : Sealed
  pub current : current_area (geometry_of c) cells ≡ Some (area, sealed)
  pub ended : sealed.before ≡ length sealed.journal
  pub says : said_by_area c sealed ≡ Some tried

-- What the areas say: that of the saver says `own`; and that is current, if one is, or the other one is, which says `tried`.
pub record AreasSay (c : DriveConfig) (s : JournalState) (cells : List Cell) (own tried : Reading) : Type 0 where
  pub own_says : said_alone c s.area cells ≡ Some own
  pub current : (current_area (geometry_of c) cells ≡ sealed_at (geometry_of c) cells s.area) ⊎ IsTried c (other_area s.area) cells tried

-- an image reads as one of these, and its data pages are as they were
pub record ReadsAsOneOf (c : DriveConfig) (old : List Cell) (readings : List Reading) (image : List Cell) : Type 0 where
  pub reading : Reading
  pub reads : reads_as c image ≡ Some reading
  pub among : Contains readings reading
  pub data_pages_same : SameDataPages c old image

-- the area of the saver says one of these, and the other one, where it is current, one of those
pub record AreasSayOneOf (c : DriveConfig) (s : JournalState) (cells : List Cell) (owns trieds : List Reading) : Type 0 where
  pub own : Reading
  pub tried : Reading
  pub own_among : Contains owns own
  pub tried_among : Contains trieds tried
  pub say : AreasSay c s cells own tried
