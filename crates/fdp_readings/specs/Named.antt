-- The pages that a reading names, in cells that change.
use Rattle.std.specs.Prelude.{◌≡◌, ◌≢◌, ℕ, ◌/◌, ◌≤◌, List, Some, slice_get}
use Rattle.fdp_base.specs.declared.config.DriveConfig.{DriveConfig}
use Rattle.fdp_base.specs.Placement.{geometry_of}
use Rattle.fdp_flash.specs.declared.cell.Cell.{Cell}
use Rattle.fdp_image.specs.Areas.{data_pages}
use Rattle.fdp_image.specs.Reading.{Reading}

-- each page that a reading names is as it was
abbrev pub KeepsNamed : Reading → List Cell → List Cell → Type 0
KeepsNamed r old new = (nsid lba page : ℕ) → r.pages nsid lba ≡ Some page → slice_get new page ≡ slice_get old page

-- a reading names no page of a unit
abbrev pub NamesNone : DriveConfig → Reading → ℕ → Type 0
NamesNone c r unit = (nsid lba page : ℕ) → r.pages nsid lba ≡ Some page → page / c.unit_pages ≢ unit

-- the pages behind those of data are as they were
abbrev pub KeepsSystem : DriveConfig → List Cell → List Cell → Type 0
KeepsSystem c old new = (page : ℕ) → data_pages (geometry_of c) ≤ page → slice_get new page ≡ slice_get old page
