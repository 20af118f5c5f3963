-- What pages of data hold by the cells of a flash.
use Rattle.std.specs.Prelude.{ℕ, ◌&&◌, List, Option, None, nat_lt, slice_get, if◌then◌else◌, option_and_then, option_map}
use Rattle.fdp_base.specs.declared.config.DriveConfig.{DriveConfig}
use Rattle.fdp_base.specs.declared.config.Geometry.{Geometry}
use Rattle.fdp_base.specs.declared.entry.Spot.{Spot}
use Rattle.fdp_base.specs.declared.spare.DataSpare.{DataSpare}
use Rattle.fdp_base.specs.Geometry.{data_units}
use Rattle.fdp_base.specs.Placement.{geometry_of}
use Rattle.fdp_flash.specs.declared.cell.Cell.{Cell}
use Rattle.fdp_flash.specs.declared.cell.Cell.TheVariants.{Blank, Torn, Whole}
use Rattle.fdp_flash.specs.Layout.{page_number}
use Rattle.fdp_locations.specs.Written.{Written}
use Rattle.fdp_records.specs.Spares.{said_by_data}

-- a page of these bytes, by what its spare says
abbrev pub written_as : List ℕ → DataSpare → Written
written_as bytes spare = record { spare = spare; bytes = bytes }

-- what a cell holds, where it is whole and its spare is one of data
abbrev pub held_in : Cell → Option Written
held_in Blank = None
held_in Torn = None
held_in (Whole spare bytes) = option_map (written_as bytes) (said_by_data spare)

-- what a page holds, where it is one of a data unit
abbrev pub held_at : Geometry → List Cell → Spot → Option Written
held_at g cells spot =
    if nat_lt spot.unit (data_units g) && nat_lt spot.page g.unit_pages
    then option_and_then held_in (slice_get cells (page_number g spot))
    else None

-- what the pages of data hold
abbrev pub pages_held : DriveConfig → List Cell → Spot → Option Written
pages_held c cells = held_at (geometry_of c) cells

-- pages that hold nothing
abbrev pub no_pages : Spot → Option Written
no_pages spot = None
