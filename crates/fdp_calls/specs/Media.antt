-- What calls of the flash leave of it.
use Rattle.std.specs.Prelude.{◌≡◌, ℕ, IsTrue, slice_set}
use Rattle.fdp_base.specs.Counts.{counted}
use Rattle.fdp_flash.specs.declared.cell.Cell.{Cell}
use Rattle.fdp_flash.specs.Runs.{Runs}
use Rattle.fdp_flash.specs.FlashState.{FlashState}
use Rattle.fdp_calls.specs.Calls.{IsKept}

-- calls that read, or no call: whatever a stop in one leaves is as the cells were
pub record IsReadFrom (old new : FlashState) : Type 0 where
  pub kept : IsKept old new
  pub stops : Runs old new (λ m image. image ≡ old.cells)
  pub programs : new.programs ≡ old.programs
  pub cells : IsTrue old.told → new.cells ≡ old.cells

-- a call that programmed this page of data
pub record IsProgrammedTo (old new : FlashState) (number : ℕ) (page : Cell) : Type 0 where
  pub kept : IsKept old new
  pub programs : new.programs ≡ counted old.programs
  pub faults : new.faults ≡ old.faults
  pub cells : IsTrue old.told → new.cells ≡ slice_set old.cells number page
