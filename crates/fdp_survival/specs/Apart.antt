-- What a stop leaves of the isolation of a drive.
use Rattle.std.specs.Prelude.{◌≡◌, ℕ, ◌≤◌, IsFalse, IsTrue, List, Some, length}
use Rattle.fdp_base.specs.declared.config.DriveConfig.{DriveConfig}
use Rattle.fdp_base.specs.declared.entry.Entry.{Entry}
use Rattle.fdp_durability.specs.fdp_journal.JournalState.{JournalState}
use Rattle.fdp_durability.specs.fdp_saving.Said.{IsTried, said_alone}
use Rattle.fdp_durability.specs.fdp_saving.Saver.{other_area}
use Rattle.fdp_flash.specs.declared.cell.Cell.{Cell}
use Rattle.fdp_flash.specs.FlashState.{FlashState}
use Rattle.fdp_flash.specs.Runs.{Runs}
use Rattle.fdp_image.specs.Isolation.{IsIsolated, IsIsolatedImage}
use Rattle.fdp_image.specs.Kept.{IsBeginning}
use Rattle.fdp_image.specs.Reading.{Reading}
use Rattle.fdp_image.specs.Reads.{reads_as}
use Rattle.fdp_image.specs.Roomy.{is_unused}
use Rattle.fdp_image.specs.StandsFor.{StandsFor}
use Rattle.fdp_isolation.specs.Isolated.{IsIsolatedDrive}
use Rattle.fdp_isolation.specs.Reads.{ReadsApart}
use Rattle.fdp_rules.specs.History.{Found, point_of, state_of}
use Rattle.fdp_rules.specs.Step.{IsDataUnit}

-- what the area of a saver says is isolated, and what the other one says where it is current
pub record AreSaidApart (c : DriveConfig) (s : JournalState) (cells : List Cell) : Type 0 where
  pub own : (r : Reading) → said_alone c s.area cells ≡ Some r → ReadsApart c cells r
  pub tried : (r : Reading) → IsTried c (other_area s.area) cells r → ReadsApart c cells r

-- whatever these cells read as, they are an isolated image by that
abbrev pub ReadsIsolated : DriveConfig → List Cell → Type 0
ReadsIsolated c cells = (r : Reading) → reads_as c cells ≡ Some r → IsIsolatedImage c cells r

-- Data stands apart in an image: it is isolated by the history as it stood then, a beginning with at least so many entries, and whatever the
-- image reads as, it is an isolated image by that.
pub record StandsApart (c : DriveConfig) (f : Found) (es : List Entry) (from : ℕ) (image : List Cell) : Type 0 where
  pub kept : List Entry
  pub lost : List Entry
  pub beginning : IsBeginning es kept lost
  pub enough : from ≤ length kept
  pub drive : IsIsolatedDrive c (point_of c f kept) kept image
  pub read : ReadsIsolated c image

-- data is isolated in an image by the very history for which it stands: so is each data unit in which a block stands that this history has
abbrev pub IsApartBy : (c : DriveConfig) (f : Found) (image : List Cell) (es : List Entry) → StandsFor c f image es → Type 0
IsApartBy c f image es stands = (unit : ℕ) → IsDataUnit c unit → IsFalse (is_unused c stands.reading unit) → IsIsolated c (state_of c f es) image unit

-- What a call promises of the data in what a stop leaves, with the number of entries at its entry: data stands apart in each image, and, by all
-- entries, in the cells at its exit.
pub record IsStopApart (c : DriveConfig) (f : Found) (es : List Entry) (from : ℕ) (old new : FlashState) : Type 0 where
  pub images : Runs old new (λ m image. StandsApart c f es from image)
  pub cells : IsTrue new.told → StandsApart c f es (length es) new.cells
