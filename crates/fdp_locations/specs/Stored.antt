-- What a flash holds of the pages of data.
use Rattle.std.specs.Prelude.{◌≡◌, List, Option, Some}
use Rattle.fdp_base.specs.declared.config.Geometry.{Geometry}
use Rattle.fdp_base.specs.declared.entry.Spot.{Spot}
use Rattle.fdp_base.specs.Spare.{data_spare}
use Rattle.fdp_pages.specs.fdp_collector.Copying.{Holds, IsDataPage}
use Rattle.fdp_pages.specs.fdp_collector.Ready.{IsBlankBehind}
use Rattle.fdp_flash.specs.declared.cell.Cell.{Cell}
use Rattle.fdp_locations.specs.Written.{Written}
use Rattle.fdp_units.specs.UnitTable.{UnitTable}

-- each page that was written is one of a data unit, and is whole, with its spare and its block; behind the pages that were used a unit
-- is blank, unless it is lost
pub record HoldsWritten (g : Geometry) (cells : List Cell) (written : Spot → Option Written) (t : UnitTable) : Type 0 where
  pub lie : (spot : Spot) (x : Written) → written spot ≡ Some x → IsDataPage g spot
  pub whole : (spot : Spot) (x : Written) → written spot ≡ Some x → Holds g cells spot (data_spare x.spare) x.bytes
  pub blank : IsBlankBehind g cells t
