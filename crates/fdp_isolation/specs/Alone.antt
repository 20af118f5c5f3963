-- How units that had been used are left alone: what each step keeps.
use Rattle.std.specs.Prelude.{ℕ, ◌||◌, Bool, IsFalse, IsTrue, List}
use Rattle.std.specs.List.{list_any}
use Rattle.fdp_base.specs.declared.config.DriveConfig.{DriveConfig}
use Rattle.fdp_base.specs.declared.entry.Entry.{Entry}
use Rattle.fdp_base.specs.Placement.{geometry_of}
use Rattle.fdp_base.specs.EntryKinds.{empties}
use Rattle.fdp_book.specs.Book.{BookSeen}
use Rattle.fdp_flash.specs.declared.cell.Cell.{Cell}
use Rattle.fdp_image.specs.Roomy.{is_blank_unit}
use Rattle.fdp_isolation.specs.Isolated.{GetsNoPage}
use Rattle.fdp_book.specs.fdp_pages.PageTables.{PageTables}
use Rattle.fdp_rules.specs.Step.{IsDataUnit}
use Rattle.fdp_units.specs.declared.state.UnitState.{UnitState}
use Rattle.fdp_units.specs.DataUnits.{is_closed, is_lost}
use Rattle.fdp_units.specs.UnitTable.{state_at}

-- a unit in this state gets no page before it is erased: it is closed, or out of use
abbrev pub gets_none : UnitState → Bool
gets_none state = is_closed state || is_lost state

-- a unit has got no page since, and gets none as long as it was not erased
pub record IsLeftAlone (c : DriveConfig) (first : List Cell) (es : List Entry) (t : PageTables) (cells : List Cell) (unit : ℕ) : Type 0 where
  pub none : GetsNoPage c first es cells unit
  pub stands : IsFalse (list_any (empties unit) es) → IsTrue (gets_none (state_at t.units unit))

-- so it is with each unit that had a page that was not blank in these first cells, by the entries since
abbrev pub AreLeftAlone : List Cell → List Entry → BookSeen → List Cell → Type 0
AreLeftAlone first es b cells =
    (unit : ℕ) → IsDataUnit b.config unit → IsFalse (is_blank_unit (geometry_of b.config) first unit)
    → IsLeftAlone b.config first es b.pages cells unit
