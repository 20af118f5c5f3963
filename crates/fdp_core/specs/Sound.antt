-- How the parts of a group stand for its history.
use Rattle.std.specs.Prelude.{◌≡◌, ℕ, ◌+◌, ◌^◌, ◌≤◌, true, List, length}
use Rattle.fdp_base.specs.Counts.{Rose}
use Rattle.fdp_base.specs.Placement.{geometry_of}
use Rattle.fdp_relocation.specs.fdp_book.Book.{BookSeen}
use Rattle.fdp_core.specs.Seen.{HoldsHistory, IsLegalOver}
use Rattle.fdp_flash.specs.FlashState.{FlashState}
use Rattle.fdp_relocation.specs.fdp_keeper.Keeper.{IsKeeperOf, KeeperSeen}
use Rattle.fdp_loading.specs.fdp_ledger.declared.counts.Counts.{Counts}
use Rattle.fdp_loading.specs.fdp_ledger.Ledger.{IsLedger}
use Rattle.fdp_loading.specs.JournalRoom.{HasSixteen}
use Rattle.fdp_loading.specs.fdp_survival.Books.{IsSafe, KeepsApart}
use Rattle.fdp_roominess.specs.Run.{KeepsRoom}

-- the flash is cut as configured; the history is legal, and the flash holds it, keeps data apart, and has counted what it tells; a drive that began with
-- room has it while no call failed; there is a buffer for a block
pub record IsSound (handed : Counts) (flash : FlashState) (b : BookSeen) (block : List ℕ) : Type 0 where
  pub geometry : flash.geometry ≡ geometry_of b.config
  pub legal : IsLegalOver flash b
  pub stored : HoldsHistory flash b
  pub apart : KeepsApart flash b
  pub ledger : IsLedger handed b flash
  pub room : KeepsRoom handed.faults flash.faults flash.told b
  pub buffer : length block ≡ b.config.block

-- What saves the drive stands for its history, and no stop loses a firm entry. The epoch of the system areas is far below the last value, they are in doubt
-- only where a fault was counted, and the first sixteen changes of the run have a page.
pub record IsKept (handed : Counts) (flash : FlashState) (b : BookSeen) (k : KeeperSeen) : Type 0 where
  pub keeper : IsKeeperOf b k
  pub safe : IsSafe b k.saver k.firm flash
  pub epochs : k.saver.stamp.epoch ≤ 2 ^ 62 + length b.entries + b.spent
  pub doubt : k.saver.in_doubt ≡ true → Rose handed.faults flash.faults
  pub sixteen : HasSixteen b.config k.saver b.entries

-- both
pub record IsWhole (handed : Counts) (flash : FlashState) (b : BookSeen) (k : KeeperSeen) (block : List ℕ) : Type 0 where
  pub sound : IsSound handed flash b block
  pub kept : IsKept handed flash b k
