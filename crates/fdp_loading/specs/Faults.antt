-- What each fault with which an opening refuses a flash tells of its cells.
use Rattle.std.specs.Prelude.{◌≡◌, ◌⊎◌, ℕ, List, Some}
use Rattle.fdp_base.specs.declared.config.DriveConfig.{DriveConfig}
use Rattle.fdp_base.specs.declared.config.Geometry.{Geometry}
use Rattle.fdp_flash.specs.declared.cell.Cell.{Cell}
use Rattle.fdp_image.specs.Checkpoint.{reading_of_state}
use Rattle.fdp_keeper.specs.fdp_opening.Found.{IsFirstAstray}
use Rattle.fdp_keeper.specs.fdp_recovery.declared.opened.OpenFault.{OpenFault}
use Rattle.fdp_keeper.specs.fdp_recovery.declared.opened.OpenFault.TheVariants as faults
use Rattle.fdp_keeper.specs.fdp_recovery.Keys.{keys_on, other_key}
use Rattle.fdp_keeper.specs.fdp_recovery.Opened.{IsBadImage, IsFound, IsNoDrive, IsSpent}
use Rattle.fdp_snapshot.specs.declared.state.State.{State}

-- a drive was found, but this is the page of its first block that is not in its place
pub record IsStrayImage (c : DriveConfig) (g : Geometry) (cells : List Cell) (page : ℕ) : Type 0 where
  pub state : State
  pub area : ℕ
  pub epoch : ℕ
  pub found : IsFound c g cells state area epoch
  pub astray : IsFirstAstray c cells (reading_of_state state) page

-- what each fault tells of the cells
abbrev pub TellsFault : DriveConfig → Geometry → List Cell → OpenFault → Type 0
TellsFault c g cells (faults.OtherConfig key) = other_key c g (keys_on g cells) ≡ Some key
TellsFault c g cells faults.NotADrive = IsNoDrive c g cells
TellsFault c g cells (faults.BadImage page) = IsBadImage c g cells page ⊎ IsStrayImage c g cells page
TellsFault c g cells (faults.FlashFault moment) = Unit {0}
TellsFault c g cells faults.Spent = IsSpent c g cells
TellsFault c g cells faults.NoMemory = Unit {0}
