-- Which units are all blank, by the entries of their drive.
use Rattle.std.specs.Prelude.{ℕ, ◌<◌, IsFalse, IsTrue, List}
use Rattle.std.specs.List.{list_any}
use Rattle.fdp_base.specs.declared.config.Geometry.{Geometry}
use Rattle.fdp_base.specs.declared.entry.Entry.{Entry}
use Rattle.fdp_base.specs.Geometry.{data_units}
use Rattle.fdp_base.specs.EntryKinds.{empties}
use Rattle.fdp_flash.specs.declared.cell.Cell.{Cell}
use Rattle.fdp_flash.specs.Cells.{IsBlankUnit}
use Rattle.fdp_ledger.specs.Told.{is_erase}

-- a data unit that is all blank was so before, unless one of these entries tells that it was erased, or that its erase failed
pub record OnlyErasesEmpty (g : Geometry) (old new : List Cell) (es : List Entry) : Type 0 where
  pub was : (unit : ℕ) → unit < data_units g → IsBlankUnit g new unit → IsFalse (list_any (is_erase unit) es) → IsBlankUnit g old unit

-- each unit that one of these entries tells to be erased is all blank
pub record ErasedAreBlank (g : Geometry) (cells : List Cell) (es : List Entry) : Type 0 where
  pub blank : (unit : ℕ) → IsTrue (list_any (empties unit) es) → IsBlankUnit g cells unit
