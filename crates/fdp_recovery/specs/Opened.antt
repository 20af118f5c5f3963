-- What an opening answers.
use Rattle.std.specs.Prelude.{◌≡◌, ℕ, ◌+◌, ◌*◌, ◌≤◌, true, false, IsTrue, List, Some, None, Result, Ok, Err, take}
use Rattle.std.specs.List.{list_all}
use Rattle.fdp_base.specs.declared.config.DriveConfig.{DriveConfig}
use Rattle.fdp_base.specs.declared.config.Geometry.{Geometry}
use Rattle.fdp_base.specs.Geometry.{area_pages}
use Rattle.fdp_flash.specs.declared.cell.Cell.{Cell}
use Rattle.fdp_flash.specs.Failing.{FailsLast}
use Rattle.fdp_flash.specs.FlashState.{FlashState}
use Rattle.fdp_image.specs.Areas.{Sealed, current_area, data_pages}
use Rattle.fdp_image.specs.Checkpoint.{reading_of_state}
use Rattle.fdp_image.specs.Reads.{is_blank, is_spent, reads_as}
use Rattle.fdp_image.specs.Valid.{IsValid}
use Rattle.fdp_snapshot.specs.declared.state.State.{State}
use Rattle.fdp_state.specs.Loaded.{IsDriveState}
use Rattle.fdp_recovery.specs.declared.opened.OpenFault.{OpenFault}
use Rattle.fdp_recovery.specs.declared.opened.OpenFault.TheVariants as faults
use Rattle.fdp_recovery.specs.declared.opened.Opened.{Opened}
use Rattle.fdp_recovery.specs.declared.opened.Opened.TheVariants as answers
use Rattle.fdp_recovery.specs.Bad.{IsBadPage}
use Rattle.fdp_recovery.specs.Blocks.{StandApart}
use Rattle.fdp_recovery.specs.Keys.{keys_on, other_key}
use Rattle.fdp_recovery.specs.Sound.{IsSoundImage}

-- no area is sealed, and the flash is cut as the configuration asks
pub record IsUnsealedFlash (c : DriveConfig) (g : Geometry) (cells : List Cell) : Type 0 where
  pub none : current_area g cells ≡ None
  pub cut : other_key c g None ≡ None

-- a flash that no drive has written: no area is sealed, and each data page is blank
pub record IsFresh (c : DriveConfig) (g : Geometry) (cells : List Cell) : Type 0 where
  pub unsealed : IsUnsealedFlash c g cells
  pub blank : IsTrue (list_all is_blank (take (data_pages g) cells))

-- a flash without a drive that is not blank: no area is sealed, and a data page is not blank
pub record IsNoDrive (c : DriveConfig) (g : Geometry) (cells : List Cell) : Type 0 where
  pub unsealed : IsUnsealedFlash c g cells
  pub used : list_all is_blank (take (data_pages g) cells) ≡ false

-- an area is the current one, and no key differs
pub record IsCurrent (c : DriveConfig) (g : Geometry) (cells : List Cell) (area : ℕ) (z : Sealed) : Type 0 where
  pub current : current_area g cells ≡ Some (area, z)
  pub same : other_key c g (keys_on g cells) ≡ None

-- a flash that a drive has left, with its state, current area and epoch: the image reads as this state, and that is valid
pub record IsLeft (c : DriveConfig) (g : Geometry) (cells : List Cell) (s : State) (area epoch : ℕ) : Type 0 where
  pub z : Sealed
  pub current : IsCurrent c g cells area z
  pub epoch_is : epoch ≡ z.stamp.epoch
  pub sound : IsSoundImage c cells z (reading_of_state s)
  pub reads : reads_as c cells ≡ Some (reading_of_state s)
  pub valid : IsValid c cells (reading_of_state s)

-- such a flash that is not spent
pub record IsFound (c : DriveConfig) (g : Geometry) (cells : List Cell) (s : State) (area epoch : ℕ) : Type 0 where
  pub left : IsLeft c g cells s area epoch
  pub unspent : is_spent (reading_of_state s) epoch ≡ false

-- such a flash that is spent
pub record IsSpent (c : DriveConfig) (g : Geometry) (cells : List Cell) : Type 0 where
  pub state : State
  pub area : ℕ
  pub epoch : ℕ
  pub left : IsLeft c g cells state area epoch
  pub spent : is_spent (reading_of_state state) epoch ≡ true

-- an area is sealed, and this page shows that the image is that of no drive
pub record IsBadImage (c : DriveConfig) (g : Geometry) (cells : List Cell) (page : ℕ) : Type 0 where
  pub area : ℕ
  pub z : Sealed
  pub current : IsCurrent c g cells area z
  pub bad : IsBadPage c cells area z page

-- what a drive that goes on from here has of the state that was found, whatever the flash tells: it is one of a drive of the
-- configuration, that is not spent, with each block on a data page of its own, and its area is one of two
pub record CanGoOn (c : DriveConfig) (s : State) (area epoch : ℕ) : Type 0 where
  pub state : IsDriveState c s
  pub blocks : StandApart c (reading_of_state s)
  pub unspent : is_spent (reading_of_state s) epoch ≡ false
  pub is_area : area ≤ 1

abbrev pub GoesOn : DriveConfig → Opened → Type 0
GoesOn c answers.Fresh = Unit {0}
GoesOn c (answers.Found state area epoch) = CanGoOn c state area epoch

-- what an opening tells of the flash
abbrev pub TellsOpened : DriveConfig → Geometry → List Cell → Result Opened OpenFault → Type 0
TellsOpened c g cells (Ok answers.Fresh) = IsFresh c g cells
TellsOpened c g cells (Ok (answers.Found state area epoch)) = IsFound c g cells state area epoch
TellsOpened c g cells (Err (faults.OtherConfig key)) = other_key c g (keys_on g cells) ≡ Some key
TellsOpened c g cells (Err faults.NotADrive) = IsNoDrive c g cells
TellsOpened c g cells (Err (faults.BadImage page)) = IsBadImage c g cells page
TellsOpened c g cells (Err (faults.FlashFault moment)) = Unit {0}
TellsOpened c g cells (Err faults.Spent) = IsSpent c g cells
TellsOpened c g cells (Err faults.NoMemory) = Unit {0}

-- the calls of an opening, at most: one for each data page, one for each page of the two system areas, to find the seals, and two for each
-- page of the current one, to fetch its checkpoint and to read its journal
abbrev pub most_looks : Geometry → ℕ
most_looks g = data_pages g + 4 * area_pages g

-- an opening met a failed call only where it says so, and that was its last
abbrev pub EndsOpening : {X : Type 0} → FlashState → FlashState → Result X OpenFault → Type 0
EndsOpening old new (Ok opened) = new.faults ≡ old.faults
EndsOpening old new (Err (faults.OtherConfig key)) = new.faults ≡ old.faults
EndsOpening old new (Err faults.NotADrive) = new.faults ≡ old.faults
EndsOpening old new (Err (faults.BadImage page)) = new.faults ≡ old.faults
EndsOpening old new (Err (faults.FlashFault moment)) = FailsLast old new moment
EndsOpening old new (Err faults.Spent) = new.faults ≡ old.faults
EndsOpening old new (Err faults.NoMemory) = new.faults ≡ old.faults
