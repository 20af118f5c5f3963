-- What an opening makes of a flash: a run whose drive is saved.
use Rattle.std.specs.Prelude.{◌≡◌, ◌≤◌, ◌⊎◌, ℕ, ◌+◌, ◌^◌, ◌<◌, Bool, false, IsFalse, IsTrue, List, [], ◌∷◌, Some, length}
use Rattle.fdp_base.specs.declared.config.DriveConfig.{DriveConfig}
use Rattle.fdp_base.specs.declared.entry.Entry.TheVariants as entries
use Rattle.fdp_base.specs.Placement.{geometry_of}
use Rattle.fdp_keeper.specs.fdp_book.Book.{BookSeen, point_in, written_in}
use Rattle.fdp_keeper.specs.fdp_durability.Durable.{IsDurable}
use Rattle.fdp_flash.specs.declared.cell.Cell.{Cell}
use Rattle.fdp_flash.specs.FlashState.{FlashState}
use Rattle.fdp_flash.specs.Runs.{Runs}
use Rattle.fdp_image.specs.Reading.{Reading}
use Rattle.fdp_image.specs.Reads.{reads_as}
use Rattle.fdp_image.specs.Roomy.{is_blank_unit}
use Rattle.fdp_image.specs.Saving.{SameDataPages}
use Rattle.fdp_survival.specs.fdp_isolation.Begun.{OpenedApart}
use Rattle.fdp_keeper.specs.fdp_journal.JournalState.{JournalState}
use Rattle.fdp_keeper.specs.Keeper.{CanSave, IsKeeperOf, KeeperSeen}
use Rattle.fdp_ledger.specs.Counted.{counts_of}
use Rattle.fdp_ledger.specs.Ledger.{IsLedger}
use Rattle.fdp_loading.specs.Begun.{Begins}
use Rattle.fdp_keeper.specs.fdp_locations.Stored.{HoldsWritten}
use Rattle.fdp_keeper.specs.fdp_readings.Drawn.{drawn}
use Rattle.fdp_loading.specs.JournalRoom.{savings_left}
use Rattle.fdp_rules.specs.Legal.{IsLegal}
use Rattle.fdp_keeper.specs.fdp_saving.Said.{AreasSay, ReadsAsOneOf}
use Rattle.fdp_survival.specs.Apart.{AreSaidApart, StandsApart}
use Rattle.fdp_survival.specs.Books.{IsInOrder, IsSafe, KeepsApart, Survives}
use Rattle.fdp_units.specs.DataUnits.{is_free}
use Rattle.fdp_units.specs.UnitTable.{IsUnit, state_at}

-- the areas of a saver say what the cells read as, and nothing else
pub record SayOne (c : DriveConfig) (s : JournalState) (cells : List Cell) : Type 0 where
  pub reading : Reading
  pub read : reads_as c cells ≡ Some reading
  pub say : AreasSay c s cells reading reading

-- What stands before the drive is saved for the first time, on a flash that was only looked at: the book is in order and its pages are there;
-- each unit is free or has a page that is not blank; what was found is durable for the keeper, none of whose entries is firm, and isolated.
pub record IsPrepared (c : DriveConfig) (flash : FlashState) (b : BookSeen) (k : KeeperSeen) (epoch : ℕ) : Type 0 where
  pub order : IsInOrder b
  pub config_is : b.config ≡ c
  pub stored : IsTrue flash.told → HoldsWritten flash.geometry flash.cells (written_in b) b.pages.units
  pub units : IsTrue flash.told → (unit : ℕ) → IsUnit b.pages.units unit → IsTrue (is_free (state_at b.pages.units unit)) ⊎ IsFalse (is_blank_unit (geometry_of c) flash.cells unit)
  pub durable : IsTrue flash.told → IsDurable b.config b.found b.entries 0 k.saver b.pages.units flash.cells
  pub says : IsTrue flash.told → SayOne b.config k.saver flash.cells
  pub said : IsTrue flash.told → OpenedApart b.config b.found b.opened → AreSaidApart b.config k.saver flash.cells
  pub can : CanSave b k flash
  pub epoch_is : k.saver.stamp.epoch ≡ epoch
  pub few : epoch < 2 ^ 62
  pub firm_is : k.firm ≡ 0

-- no step was made, and none has room; the history has no entry, or that of the opening, which is legal
pub record IsIdle (b : BookSeen) : Type 0 where
  pub entries_are : (b.entries ≡ []) ⊎ (b.entries ≡ entries.Reopened ∷ [])
  pub spare_is : b.spare ≡ 0
  pub spent_is : b.spent ≡ 0
  pub room_is : b.room ≡ 0
  pub legal : (told : Bool) → IsLegal told b.config b.found b.entries

-- A book is in order over a flash that is cut as configured and holds what was written; data is kept apart where that was so in what was opened.
pub record StandsBegun (c : DriveConfig) (flash : FlashState) (b : BookSeen) : Type 0 where
  pub order : IsInOrder b
  pub config_is : b.config ≡ c
  pub idle : IsIdle b
  pub geometry : flash.geometry ≡ geometry_of b.config
  pub stored : IsTrue flash.told → HoldsWritten flash.geometry flash.cells (written_in b) b.pages.units
  pub apart : KeepsApart flash b

-- whatever a stop left reads as what stood on the flash, or as what the history draws, and no page of data changed in it
pub record ReadsAsBegun (c : DriveConfig) (b : BookSeen) (old new : FlashState) : Type 0 where
  pub reading : Reading
  pub read : reads_as c old.cells ≡ Some reading
  pub images : Runs old new (λ m image. ReadsAsOneOf c old.cells (reading ∷ drawn c (point_in b) ∷ []) image)

-- The drive is saved, with the next epoch: each entry is firm, nothing is in doubt, and there are pages for sixteen changes.
pub record IsSavedBegun (flash : FlashState) (b : BookSeen) (k : KeeperSeen) (epoch : ℕ) : Type 0 where
  pub keeper : IsKeeperOf b k
  pub safe : IsSafe b k.saver k.firm flash
  pub firm_is : k.firm ≡ length b.entries
  pub epoch_is : k.saver.stamp.epoch ≡ epoch + 1
  pub few : epoch < 2 ^ 62
  pub sure : k.saver.in_doubt ≡ false
  pub left : 16 ≤ savings_left b.config k.saver

-- A flash was loaded: a run begins with what stood on it, and its drive is saved. No page of data changed, and the flash counted no program
-- of one and no fault; whatever a stop left reads as what stood there or as the drive that was opened, stands for the history before the entry of the
-- opening, or with it, and data stands apart there and in the cells where what was opened kept it apart.
pub record IsLoaded (c : DriveConfig) (old new : FlashState) (b : BookSeen) (k : KeeperSeen) : Type 0 where
  pub epoch : ℕ
  pub begins : Begins c old b epoch
  pub stands : StandsBegun c new b
  pub saved : IsSavedBegun new b k epoch
  pub same : IsTrue old.told → SameDataPages c old.cells new.cells
  pub ledger : IsLedger (counts_of old) b new
  pub faults : new.faults ≡ old.faults
  pub reads : IsTrue old.told → ReadsAsBegun c b old new
  pub stops : Survives b 0 (length b.entries) old new
  pub isolated : IsTrue new.told → OpenedApart b.config b.found b.opened → StandsApart b.config b.found b.entries (length b.entries) new.cells
