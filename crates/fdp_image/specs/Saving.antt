-- What is known before a page of changes is programmed, and what its programming may leave.
use Rattle.std.specs.Prelude.{◌≡◌, ◌⊎◌, slice_get, ℕ, ◌+◌, ◌<◌, ◌≤◌, List, [], ◌∷◌, ◌++◌, length, Some}
use Rattle.fdp_base.specs.declared.config.DriveConfig.{DriveConfig}
use Rattle.fdp_base.specs.declared.config.Geometry.{Geometry}
use Rattle.fdp_base.specs.declared.entry.Spot.{Spot}
use Rattle.fdp_base.specs.declared.entry.Totals.{Totals}
use Rattle.fdp_base.specs.Geometry.{area_pages}
use Rattle.fdp_base.specs.Placement.{geometry_of}
use Rattle.fdp_flash.specs.declared.cell.Cell.{Cell}
use Rattle.fdp_flash.specs.declared.cell.Cell.TheVariants.{Blank}
use Rattle.fdp_flash.specs.Layout.{first_page, page_number}
use Rattle.fdp_records.specs.declared.change.Change.{Change}
use Rattle.fdp_records.specs.declared.spare.Stamp.{Stamp}
use Rattle.fdp_records.specs.declared.spare.SystemKind.TheVariants.{Journal}
use Rattle.fdp_records.specs.Spares.{system_spare}
use Rattle.fdp_image.specs.Applied.{with_changes}
use Rattle.fdp_image.specs.Areas.{Sealed, area_of, area_unit, current_area, data_pages}
use Rattle.fdp_image.specs.Reading.{Reading}
use Rattle.fdp_image.specs.Reads.{next_page, reads_as, told_by}

-- from this page on all pages are blank
abbrev pub AreBlankFrom : ℕ → List Cell → Type 0
AreBlankFrom first cells = (k : ℕ) → first ≤ k → k < length cells → slice_get cells k ≡ Some Blank

-- the journal of the current area can go on: all pages of the area behind it are blank
pub record CanGoOn (g : Geometry) (cells : List Cell) (number : ℕ) (area : Sealed) : Type 0 where
  pub current : current_area g cells ≡ Some (number, area)
  pub blank : AreBlankFrom (next_page area) (area_of g number cells)

-- an area is current, with this version and epoch
pub record IsCurrent (g : Geometry) (cells : List Cell) (number : ℕ) (t : Stamp) : Type 0 where
  pub area : Sealed
  pub current : current_area g cells ≡ Some (number, area)
  pub stamp : area.stamp ≡ t

-- a page behind the journal of the current area, blank as all behind it, would tell changes with this spare and these bytes
pub record IsNextRecord (c : DriveConfig) (cells : List Cell) (at : Spot) (spare bytes : List ℕ) (xs : List (Change × Totals)) : Type 0 where
  pub number : ℕ
  pub area : Sealed
  pub current : current_area (geometry_of c) cells ≡ Some (number, area)
  pub room : next_page area < area_pages (geometry_of c)
  pub blank : AreBlankFrom (next_page area) (area_of (geometry_of c) number cells)
  pub place : page_number (geometry_of c) at ≡ first_page (geometry_of c) (area_unit (geometry_of c) number) + next_page area
  pub spare_is : spare ≡ system_spare (record { kind = Journal; number = length area.journal; stamp = area.stamp })
  pub told : told_by bytes ≡ Some xs

-- the data pages of two images are the same
abbrev pub SameDataPages : DriveConfig → List Cell → List Cell → Type 0
SameDataPages c old new = (page : ℕ) → page < data_pages (geometry_of c) → slice_get new page ≡ slice_get old page

-- What saving changes by one page may leave: an image reads as the cells did, or as that with the changes; its data pages are as they were.
pub record ReadsWithOrWithout (c : DriveConfig) (cells : List Cell) (r : Reading) (xs : List (Change × Totals)) (image : List Cell) : Type 0 where
  pub reads : (reads_as c image ≡ Some r) ⊎ (reads_as c image ≡ Some (with_changes c r xs))
  pub data_pages_same : SameDataPages c cells image

-- Changes are saved by one page: the image reads with them, and behind its page the journal can go on.
pub record IsSavedIn (c : DriveConfig) (r : Reading) (number : ℕ) (area : Sealed) (bytes : List ℕ) (xs : List (Change × Totals)) (image : List Cell) : Type 0 where
  pub reads : reads_as c image ≡ Some (with_changes c r xs)
  pub current : current_area (geometry_of c) image ≡ Some (number, record area { journal = area.journal ++ bytes ∷ [] })
  pub blank : AreBlankFrom (next_page area + 1) (area_of (geometry_of c) number image)
