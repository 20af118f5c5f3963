-- What a stop in a step of relocation may leave.
use Rattle.std.specs.Prelude.{◌≡◌, ◌⊎◌, ℕ, ◌≤◌, Bool, IsTrue, List, Some, slice_get}
use Rattle.fdp_base.specs.declared.config.Geometry.{Geometry}
use Rattle.fdp_base.specs.declared.entry.Spot.{Spot}
use Rattle.fdp_collector.specs.Copying.{IsDataPage}
use Rattle.fdp_flash.specs.declared.cell.Cell.{Cell}
use Rattle.fdp_flash.specs.declared.cell.Cell.TheVariants.{Blank}
use Rattle.fdp_flash.specs.Cells.{EraseMayLeave, ProgramMayLeave}
use Rattle.fdp_flash.specs.Layout.{page_number}
use Rattle.fdp_owners.specs.OwnerTable.{OwnerTable}
use Rattle.fdp_passes.specs.Due.{HasNoLive}
use Rattle.fdp_units.specs.UnitTable.{IsUnit, UnitTable, unit_at}

-- a program of a blank page of data that was not used may leave this
pub record ProgramsUnused (g : Geometry) (t : UnitTable) (old image : List Cell) : Type 0 where
  pub at : Spot
  pub spare : List ℕ
  pub bytes : List ℕ
  pub page : IsDataPage g at
  pub unused : (unit_at t at.unit).next ≤ at.page
  pub blank : slice_get old (page_number g at) ≡ Some Blank
  pub left : ProgramMayLeave g old at spare bytes image

-- an erase of a data unit without a live page may leave this
pub record ErasesEmpty (g : Geometry) (t : UnitTable) (o : OwnerTable) (old image : List Cell) : Type 0 where
  pub unit : ℕ
  pub is_unit : IsUnit t unit
  pub empty : HasNoLive o unit 0
  pub left : EraseMayLeave g old unit image

-- A stop leaves the cells as they were; or what the program of an unused page may leave; or, where units may be erased, what the
-- erase of one without a live page may leave.
abbrev pub StepMayLeave : Bool → Geometry → UnitTable → OwnerTable → List Cell → List Cell → Type 0
StepMayLeave may_erase g t o old image = (image ≡ old) ⊎ ProgramsUnused g t old image ⊎ (IsTrue may_erase × ErasesEmpty g t o old image)
