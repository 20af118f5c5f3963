-- What opening a drive on a flash gives.
use Rattle.std.specs.Prelude.{◌≡◌, ◌⊎◌, ℕ, ◌≤◌, true, false, IsTrue, List, [], ◌∷◌, Some, length}
use Rattle.fdp_base.specs.declared.config.DriveConfig.{DriveConfig}
use Rattle.fdp_base.specs.declared.entry.Entry.TheVariants as entries
use Rattle.fdp_base.specs.Placement.{geometry_of}
use Rattle.fdp_core.specs.declared.loaded.NotLoaded.{NotLoaded}
use Rattle.fdp_core.specs.Seen.{Seen}
use Rattle.fdp_flash.specs.declared.cell.Cell.{Cell}
use Rattle.fdp_flash.specs.FlashState.{FlashState}
use Rattle.fdp_flash.specs.Runs.{Runs}
use Rattle.fdp_image.specs.Areas.{Sealed, current_area}
use Rattle.fdp_image.specs.Kept.{StandsForBeginning}
use Rattle.fdp_image.specs.Reading.{Reading}
use Rattle.fdp_image.specs.Reads.{is_spent, reads_as}
use Rattle.fdp_image.specs.StandsFor.{StandsFor}
use Rattle.fdp_loading.specs.fdp_book.Book.{BookSeen}
use Rattle.fdp_loading.specs.fdp_ledger.Counted.{counts_of}
use Rattle.fdp_loading.specs.fdp_ledger.Emptied.{OnlyErasesEmpty}
use Rattle.fdp_loading.specs.fdp_recovery.Opened.{IsFresh}
use Rattle.fdp_loading.specs.JournalRoom.{savings_left}
use Rattle.fdp_loading.specs.Opens.{LeavesOpen}
use Rattle.fdp_loading.specs.fdp_isolation.Begun.{OpenedApart}
use Rattle.fdp_loading.specs.fdp_survival.Apart.{IsStopApart, ReadsIsolated}
use Rattle.fdp_loading.specs.fdp_survival.Books.{IsInOrder}
use Rattle.fdp_loading.specs.Refused as refused
use Rattle.fdp_roominess.specs.Run.{BeganRoomy, IsRoomyImage}
use Rattle.fdp_rules.specs.History.{fresh}

-- an image is not used up: a run can go on from what it says and from the epoch of its current area
pub record IsNotUsedUp (c : DriveConfig) (cells : List Cell) : Type 0 where
  pub reading : Reading
  pub read : reads_as c cells ≡ Some reading
  pub area : ℕ
  pub sealed : Sealed
  pub current : current_area (geometry_of c) cells ≡ Some (area, sealed)
  pub unspent : is_spent reading sealed.stamp.epoch ≡ false

-- a new drive was made on a flash that no drive had written: its history begins with what the configuration makes, and has no entry yet
pub record IsNewDrive (c : DriveConfig) (flash : FlashState) (b : BookSeen) : Type 0 where
  pub entries_are : b.entries ≡ []
  pub found_is : b.found ≡ fresh c
  pub fresh_is : IsTrue flash.told → IsFresh c flash.geometry flash.cells

-- the drive of an image was opened: its history has the entry of the opening, and where the cells are told they are what was opened, and not spent
pub record IsOpenedDrive (c : DriveConfig) (flash : FlashState) (b : BookSeen) : Type 0 where
  pub entries_are : b.entries ≡ entries.Reopened ∷ []
  pub is_image : b.found.is_image ≡ true
  pub opened_is : IsTrue flash.told → b.opened ≡ flash.cells
  pub unspent : IsTrue flash.told → IsNotUsedUp c flash.cells

-- A drive was opened on a flash, or made there, which is cut as the configuration asks: its history goes on from what the image stood for, in order, nothing
-- failed, no saving is in doubt, and there are pages for sixteen changes. A data unit that is all blank was so in the cells that were handed in. Where the image was isolated, what was opened keeps data apart, and where it does, data stands apart in what a stop left
-- and in the cells. Where the image was roomy, the run begins with room; and where it did, whatever a stop left is a roomy image. The next run takes it all.
pub record IsLoaded {F : Type 0} (state : F → FlashState) (c : DriveConfig) (flash : F) (group : Seen F) : Type 0 where
  pub config_is : group.book.config ≡ c
  pub handed_is : group.handed ≡ counts_of (state flash)
  pub began : IsNewDrive c (state flash) group.book ⊎ IsOpenedDrive c (state flash) group.book
  pub geometry : (state group.flash).geometry ≡ geometry_of c
  pub sure : group.keeper.saver.in_doubt ≡ false
  pub left : 16 ≤ savings_left c group.keeper.saver
  pub spare_is : group.book.spare ≡ 0
  pub spent_is : group.book.spent ≡ 0
  pub order : IsInOrder group.book
  pub stood : IsTrue (state flash).told → StandsFor c group.book.found (state flash).cells []
  pub emptied : IsTrue (state flash).told → OnlyErasesEmpty (geometry_of c) (state flash).cells (state group.flash).cells group.book.entries
  pub faults : (state group.flash).faults ≡ (state flash).faults
  pub firm : group.keeper.firm ≡ length group.book.entries
  pub stops : Runs (state flash) (state group.flash) (λ m image. StandsForBeginning c group.book.found group.book.entries 0 image)
  pub opened : IsTrue (state flash).told → ReadsIsolated c (state flash).cells → OpenedApart c group.book.found group.book.opened
  pub roomy : IsTrue (state flash).told → IsRoomyImage c (state flash).cells → BeganRoomy (state flash).told group.book
  pub stays_roomy : BeganRoomy (state group.flash).told group.book → Runs (state flash) (state group.flash) (λ m image. IsRoomyImage c image)
  pub apart : OpenedApart c group.book.found group.book.opened → IsStopApart c group.book.found group.book.entries (length group.book.entries) (state flash) (state group.flash)
  pub opens : LeavesOpen c (state flash) (state group.flash)

-- no drive was opened: the cause, and what it left of the flash
abbrev pub IsNotLoaded : {F : Type 0} → (F → FlashState) → DriveConfig → F → NotLoaded F → Type 0
IsNotLoaded state c flash e = refused.IsNotLoaded c (state flash) (state e.flash) e.cause
