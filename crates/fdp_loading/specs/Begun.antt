-- How the run of a drive begins.
use Rattle.std.specs.Prelude.{◌≡◌, ◌⊎◌, ℕ, IsTrue, []}
use Rattle.fdp_base.specs.declared.config.DriveConfig.{DriveConfig}
use Rattle.fdp_keeper.specs.fdp_book.Book.{BookSeen, IsFirst}
use Rattle.fdp_keeper.specs.fdp_book.Reopened.{IsReopened}
use Rattle.fdp_flash.specs.FlashState.{FlashState}
use Rattle.fdp_image.specs.Checkpoint.{reading_of_state}
use Rattle.fdp_image.specs.StandsFor.{StandsFor}
use Rattle.fdp_image.specs.Valid.{IsValid}
use Rattle.fdp_keeper.specs.fdp_recovery.Opened.{CanGoOn, IsFound, IsFresh}
use Rattle.fdp_snapshot.specs.declared.state.State.{State}
use Rattle.fdp_survival.specs.Apart.{ReadsIsolated}
use Rattle.fdp_survival.specs.fdp_isolation.Begun.{OpenedApart}

-- a drive as its configuration makes it, over a flash that no drive has written; its history has no entry yet
pub record BeginsFresh (c : DriveConfig) (flash : FlashState) (b : BookSeen) (epoch : ℕ) : Type 0 where
  pub book : IsFirst c b
  pub epoch_is : epoch ≡ 0
  pub told : IsTrue flash.told → IsFresh c flash.geometry flash.cells

-- the drive that an image says, with the epoch of its current area; its history has the entry of the opening. Where the flash tells its cells
-- they are those of the image
pub record BeginsFound (c : DriveConfig) (flash : FlashState) (b : BookSeen) (epoch : ℕ) : Type 0 where
  pub state : State
  pub area : ℕ
  pub goes_on : CanGoOn c state area epoch
  pub book : IsReopened c b.opened (reading_of_state state) b
  pub valid : IsValid c b.opened (reading_of_state state)
  pub opened_is : IsTrue flash.told → b.opened ≡ flash.cells
  pub told : IsTrue flash.told → IsFound c flash.geometry flash.cells state area epoch

-- a run begins with what stood on a flash, which stands for what the history began with; where the image was isolated, what was opened keeps
-- data apart
pub record Begins (c : DriveConfig) (flash : FlashState) (b : BookSeen) (epoch : ℕ) : Type 0 where
  pub with : BeginsFresh c flash b epoch ⊎ BeginsFound c flash b epoch
  pub stood : IsTrue flash.told → StandsFor c b.found flash.cells []
  pub apart : IsTrue flash.told → ReadsIsolated c flash.cells → OpenedApart c b.found b.opened
