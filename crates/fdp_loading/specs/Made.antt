-- What is made of a flash before its drive is saved.
use Rattle.std.specs.Prelude.{◌≡◌, ℕ, IsTrue, Result, Ok, Err}
use Rattle.fdp_base.specs.declared.config.DriveConfig.{DriveConfig}
use Rattle.fdp_base.specs.Placement.{geometry_of}
use Rattle.fdp_keeper.specs.fdp_book.Book.{BookSeen, IsFirst}
use Rattle.fdp_keeper.specs.fdp_book.Reopened.{IsReopened, WasFound, cells_found}
use Rattle.fdp_flash.specs.declared.answer.Wrote.TheVariants as wrote
use Rattle.fdp_flash.specs.FlashState.{FlashState}
use Rattle.fdp_image.specs.Checkpoint.{reading_of_state}
use Rattle.fdp_image.specs.Reading.{Reading}
use Rattle.fdp_image.specs.Valid.{IsValid}
use Rattle.fdp_keeper.specs.Keeper.{KeeperSeen, KeepsDrive}
use Rattle.fdp_loading.specs.declared.loaded.Loaded.{Loaded}
use Rattle.fdp_loading.specs.Begun.{Begins}
use Rattle.fdp_loading.specs.Loaded.{IsPrepared}
use Rattle.fdp_keeper.specs.fdp_opening.Found.{IsFirstAstray}
use Rattle.fdp_keeper.specs.fdp_recovery.declared.opened.OpenFault.{OpenFault}
use Rattle.fdp_keeper.specs.fdp_recovery.declared.opened.OpenFault.TheVariants as faults
use Rattle.fdp_keeper.specs.fdp_saving.Saver.{first_saver}
use Rattle.fdp_snapshot.specs.declared.state.State.{State}
use Rattle.fdp_survival.specs.Books.{IsInOrder}

-- a drive as its configuration makes it: its book before the first command, and a keeper of a flash without a sealed area
pub record IsFreshDrive (c : DriveConfig) (b : BookSeen) (k : KeeperSeen) : Type 0 where
  pub book : IsFirst c b
  pub order : IsInOrder b
  pub saver_is : k.saver ≡ first_saver (geometry_of c) 1 0
  pub firm_is : k.firm ≡ 0

-- a drive of a state that was found, with its area and epoch: its book behind the entry of the opening, and a keeper
pub record IsFoundDrive (c : DriveConfig) (flash : FlashState) (state : State) (area epoch : ℕ) (b : BookSeen) (k : KeeperSeen) : Type 0 where
  pub was : WasFound c flash state b.pages
  pub book : IsReopened c (cells_found c flash b.pages) (reading_of_state state) b
  pub valid : IsValid c (cells_found c flash b.pages) (reading_of_state state)
  pub order : IsInOrder b
  pub saver_is : k.saver ≡ first_saver (geometry_of c) area epoch
  pub firm_is : k.firm ≡ 0

-- why the pages of a state that was found are not those of a drive, by the fault: there are no others than these three
abbrev pub TellsPages : DriveConfig → FlashState → Reading → OpenFault → Type 0
TellsPages c flash r (faults.OtherConfig key) = ⊥
TellsPages c flash r faults.NotADrive = ⊥
TellsPages c flash r (faults.BadImage page) = IsTrue flash.told → IsFirstAstray c flash.cells r page
TellsPages c flash r (faults.FlashFault moment) = Unit {0}
TellsPages c flash r faults.Spent = ⊥
TellsPages c flash r faults.NoMemory = Unit {0}

-- a run begins with a flash that was only looked at, and whose drive is not saved yet
pub record IsBegun (c : DriveConfig) (old new : FlashState) (b : BookSeen) (k : KeeperSeen) : Type 0 where
  pub epoch : ℕ
  pub begins : Begins c old b epoch
  pub prepared : IsPrepared c new b k epoch
  pub faults : new.faults ≡ old.faults

-- a keeper tried to save a drive for the first time, which failed
pub record KeepsNone (b : BookSeen) (k : KeeperSeen) (old new : FlashState) : Type 0 where
  pub keeper : KeeperSeen
  pub keeps : KeepsDrive b k keeper old new wrote.Failed

-- a drive was saved for the first time, or was not
abbrev pub SavesFirst : BookSeen → KeeperSeen → FlashState → FlashState → Result Loaded OpenFault → Type 0
SavesFirst b k old new (Ok made) = (made.book ≡ b) × KeepsDrive b k made.keeper old new wrote.Done
SavesFirst b k old new (Err (faults.OtherConfig key)) = ⊥
SavesFirst b k old new (Err faults.NotADrive) = ⊥
SavesFirst b k old new (Err (faults.BadImage page)) = ⊥
SavesFirst b k old new (Err (faults.FlashFault moment)) = (moment ≡ new.moment) × KeepsNone b k old new
SavesFirst b k old new (Err faults.Spent) = ⊥
SavesFirst b k old new (Err faults.NoMemory) = ⊥
