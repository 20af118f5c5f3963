-- Which images open, whatever was left of a run.
use Rattle.std.specs.Prelude.{◌≡◌, IsTrue, List, Some}
use Rattle.fdp_base.specs.declared.config.DriveConfig.{DriveConfig}
use Rattle.fdp_base.specs.Placement.{geometry_of}
use Rattle.fdp_flash.specs.declared.cell.Cell.{Cell}
use Rattle.fdp_flash.specs.FlashState.{FlashState}
use Rattle.fdp_flash.specs.Runs.{Runs}
use Rattle.fdp_image.specs.Reading.{Reading}
use Rattle.fdp_image.specs.Reads.{reads_as}
use Rattle.fdp_keeper.specs.fdp_recovery.declared.opened.OpenFault.{OpenFault}
use Rattle.fdp_keeper.specs.fdp_recovery.declared.opened.OpenFault.TheVariants as faults
use Rattle.fdp_keeper.specs.fdp_recovery.Taken.{HasSameKeys, IsUsedUp}
use Rattle.fdp_loading.specs.Faults.{TellsFault}

-- the faults with which an opening may still refuse an image that says this: a failed call, want of memory, and that the image is used up
abbrev pub MayRefuse : DriveConfig → List Cell → Reading → OpenFault → Type 0
MayRefuse c cells r (faults.OtherConfig key) = ⊥
MayRefuse c cells r faults.NotADrive = ⊥
MayRefuse c cells r (faults.BadImage page) = ⊥
MayRefuse c cells r (faults.FlashFault moment) = Unit {0}
MayRefuse c cells r faults.Spent = IsUsedUp c cells r
MayRefuse c cells r faults.NoMemory = Unit {0}

-- An image opens: with the configuration of its drive, and with any other value of the keys that are not compared, nothing that it shows is
-- another configuration's, no drive or a bad page, and it shows to be spent only where what it says, or the epoch of its current area, is.
pub record Opens (c : DriveConfig) (cells : List Cell) : Type 0 where
  pub reading : Reading
  pub read : reads_as c cells ≡ Some reading
  pub faults : (d : DriveConfig) → HasSameKeys c d → (fault : OpenFault) → TellsFault d (geometry_of d) cells fault → MayRefuse d cells reading fault

-- Whatever a stop in some calls leaves opens, and where the cells are told so do they behind the calls.
pub record LeavesOpen (c : DriveConfig) (old new : FlashState) : Type 0 where
  pub images : Runs old new (λ m image. Opens c image)
  pub cells : IsTrue new.told → Opens c new.cells
