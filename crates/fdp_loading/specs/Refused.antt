-- Why no run begins with a flash, and what stands on it then.
use Rattle.std.specs.Prelude.{◌≡◌, ◌⊎◌, ℕ, IsTrue, length}
use Rattle.fdp_base.specs.declared.config.DriveConfig.{DriveConfig}
use Rattle.fdp_keeper.specs.fdp_book.Book.{BookSeen}
use Rattle.fdp_flash.specs.Failing.{FailsLast}
use Rattle.fdp_flash.specs.FlashState.{FlashState}
use Rattle.fdp_image.specs.Saving.{SameDataPages}
use Rattle.fdp_loading.specs.Begun.{Begins}
use Rattle.fdp_loading.specs.Faults.{TellsFault}
use Rattle.fdp_loading.specs.Opens.{LeavesOpen}
use Rattle.fdp_keeper.specs.fdp_recovery.declared.opened.OpenFault.{OpenFault}
use Rattle.fdp_keeper.specs.fdp_recovery.declared.opened.OpenFault.TheVariants as faults
use Rattle.fdp_keeper.specs.fdp_recovery.Walking.{OnlyLooks}
use Rattle.fdp_survival.specs.Books.{Survives}
use Rattle.fdp_survival.specs.Safe.{IsSafeImage}

-- the flash was only looked at, and no call of it failed
pub record IsLookedAt (old new : FlashState) : Type 0 where
  pub looks : OnlyLooks old new
  pub faults : new.faults ≡ old.faults

-- The drive that was to be saved first was not: no page of data changed, and the flash, and whatever a stop left, stands for what the history
-- begins with, without the entry of the opening or with it, keeps data apart where what was opened did, and opens.
pub record FailsToSave (c : DriveConfig) (old new : FlashState) : Type 0 where
  pub book : BookSeen
  pub epoch : ℕ
  pub begins : Begins c old book epoch
  pub same : IsTrue old.told → SameDataPages c old.cells new.cells
  pub programs : new.programs ≡ old.programs
  pub stops : Survives book 0 (length book.entries) old new
  pub cells : IsTrue new.told → IsSafeImage book.config book.found book.opened book.entries 0 (length book.entries) new.cells
  pub opens : LeavesOpen c old new

-- a flash whose last call failed was only looked at, or its first checkpoint failed
pub record FailsToLoad (c : DriveConfig) (old new : FlashState) (moment : ℕ) : Type 0 where
  pub last : FailsLast old new moment
  pub left : OnlyLooks old new ⊎ FailsToSave c old new

-- what becomes of the flash by the fault: only one of the flash itself may have changed it
abbrev pub LeavesFlash : DriveConfig → FlashState → FlashState → OpenFault → Type 0
LeavesFlash c old new (faults.OtherConfig key) = IsLookedAt old new
LeavesFlash c old new faults.NotADrive = IsLookedAt old new
LeavesFlash c old new (faults.BadImage page) = IsLookedAt old new
LeavesFlash c old new (faults.FlashFault moment) = FailsToLoad c old new moment
LeavesFlash c old new faults.Spent = IsLookedAt old new
LeavesFlash c old new faults.NoMemory = IsLookedAt old new

-- No run begins with a flash, for this fault: what it tells of the flash, and what it leaves there.
pub record IsNotLoaded (c : DriveConfig) (old new : FlashState) (fault : OpenFault) : Type 0 where
  pub told : IsTrue old.told → TellsFault c old.geometry old.cells fault
  pub left : LeavesFlash c old new fault
