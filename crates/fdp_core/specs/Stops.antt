-- What a stop may leave of a group.
use Rattle.std.specs.Prelude.{◌≡◌, ◌≤◌, All, IsFalse, IsTrue, List, length}
use Rattle.fdp_base.specs.declared.config.DriveConfig.{DriveConfig}
use Rattle.fdp_base.specs.declared.entry.Entry.{Entry}
use Rattle.fdp_relocation.specs.declared.advance.Advance.{Advance}
use Rattle.fdp_relocation.specs.declared.advance.Advance.TheVariants as advance
use Rattle.fdp_relocation.specs.fdp_book.Book.{BookSeen, IsLonger, point_in, state_in}
use Rattle.fdp_core.specs.Seen.{Seen}
use Rattle.fdp_relocation.specs.fdp_durability.Firm.{completes}
use Rattle.fdp_flash.specs.declared.cell.Cell.{Cell}
use Rattle.fdp_flash.specs.FlashState.{FlashState}
use Rattle.fdp_flash.specs.Runs.{Runs}
use Rattle.fdp_image.specs.Kept.{AreFirm, IsStopSafe}
use Rattle.fdp_loading.specs.Opens.{LeavesOpen}
use Rattle.fdp_loading.specs.fdp_isolation.Begun.{OpenedApart}
use Rattle.fdp_loading.specs.fdp_isolation.Isolated.{IsIsolatedDrive}
use Rattle.fdp_loading.specs.fdp_isolation.Stays.{IsSameSetting, StaysIsolated}
use Rattle.fdp_loading.specs.fdp_survival.Apart.{IsStopApart}
use Rattle.fdp_loading.specs.fdp_survival.Books.{IsSafe, KeepsIsolated}
use Rattle.fdp_loading.specs.fdp_survival.Safe.{IsSafeImage}
use Rattle.fdp_relocation.specs.fdp_keeper.Keeper.{KeeperSeen}
use Rattle.fdp_base.specs.Counts.{Rose}
use Rattle.fdp_roominess.specs.Run.{BeganRoomy, IsRoomyImage}
use Rattle.fdp_rules.specs.PlainState.{PlainState}

-- where the run began with room, and no fault was counted to the end of a step, whatever a stop in a call of it leaves is a roomy image
abbrev pub LeavesRoomy : {F : Type 0} → (F → FlashState) → Seen F → Seen F → Type 0
LeavesRoomy state old new =
    BeganRoomy (state old.flash).told old.book → (Rose old.handed.faults (state new.flash).faults → ⊥)
    → Runs (state old.flash) (state new.flash) (λ m image. IsRoomyImage old.book.config image)

-- data is isolated in some cells by the history of a book
abbrev pub IsIsolatedBy : BookSeen → List Cell → Type 0
IsIsolatedBy b cells = IsIsolatedDrive b.config (point_in b) b.entries cells

-- where the cells that were opened kept data apart, it is isolated in whatever a stop in a call of a step leaves, by the history at the exit of the step
abbrev pub LeavesIsolated : BookSeen → BookSeen → FlashState → FlashState → Type 0
LeavesIsolated b d old new = OpenedApart b.config b.found b.opened → Runs old new (λ m image. IsIsolatedBy d image)

-- Whatever a stop in a call of a step leaves stands for a beginning of the history that has the entries which were firm, and each change that
-- was completed at an earlier moment; so do the cells after the step, with those entries that are firm then. These are no fewer than
-- before, and each completed change is among them. And data stands apart in what a stop leaves, by a beginning of the history that has the
-- entries before the step, and in the cells after it, where the cells that were opened kept it apart; and there it is isolated by the whole history
-- at the exit of the step, too. It is roomy where the run began so, while no call failed. And all of it opens: the next run takes it.
pub record OutlastsStops {F : Type 0} (state : F → FlashState) (old new : Seen F) : Type 0 where
  pub stops : IsStopSafe old.book.config old.book.found new.book.entries old.keeper.firm new.keeper.firm (state old.flash) (state new.flash)
  pub apart : OpenedApart old.book.config old.book.found old.book.opened → IsStopApart old.book.config old.book.found new.book.entries (length old.book.entries) (state old.flash) (state new.flash)
  pub isolated : LeavesIsolated old.book new.book (state old.flash) (state new.flash)
  pub opens : LeavesOpen old.book.config (state old.flash) (state new.flash)
  pub roomy : LeavesRoomy state old new
  pub more : old.keeper.firm ≤ new.keeper.firm
  pub firm : AreFirm new.book.entries new.keeper.firm

-- ---- parts of a step

-- what is isolated before some calls stays so behind them, and in whatever a stop in one leaves, by whichever history with this setting in force
pub record StaysWithin (c : DriveConfig) (s : PlainState) (old new : FlashState) : Type 0 where
  pub images : Runs old new (λ m image. StaysIsolated c s old.cells image)
  pub cells : IsTrue old.told → StaysIsolated c s old.cells new.cells

-- What a part of a step leaves of isolation, where the cells that were opened kept data apart: it stays within the part, and the setting stays in
-- force; and where data is isolated in the cells behind the part, it is so in those before it, by the history behind it.
pub record KeepsPart (b d : BookSeen) (old new : FlashState) : Type 0 where
  pub within : OpenedApart b.config b.found b.opened → StaysWithin b.config (state_in b) old new
  pub setting : IsSameSetting (state_in b) (state_in d)
  pub first : IsTrue old.told → OpenedApart b.config b.found b.opened → IsIsolatedBy d new.cells → IsIsolatedBy d old.cells

-- what is isolated in the cells behind a part is so in those before it, by whichever history: each whole page stands still
abbrev pub Retains : BookSeen → FlashState → FlashState → Type 0
Retains b old new = IsTrue old.told → OpenedApart b.config b.found b.opened → StaysIsolated b.config (state_in b) new.cells old.cells

-- so it is behind a copy and behind a move
abbrev pub RetainsBehind : BookSeen → FlashState → FlashState → Advance → Type 0
RetainsBehind b old new advance.Nothing = Unit {0}
RetainsBehind b old new advance.Copied = Retains b old new
RetainsBehind b old new advance.Moved = Retains b old new
RetainsBehind b old new advance.Erased = Unit {0}
RetainsBehind b old new advance.Starved = Unit {0}
RetainsBehind b old new advance.Fault = Unit {0}

-- no unit comes into use by the entries of a part: what is isolated by the history before them is so by the one with them
abbrev pub UsesNoMore : BookSeen → BookSeen → FlashState → Type 0
UsesNoMore b d flash = IsTrue flash.told → OpenedApart b.config b.found b.opened → (cells : List Cell) → IsIsolatedBy b cells → IsIsolatedBy d cells

-- Within a step these entries were added, none of which completes a change: each image stands for a beginning of the history so far, with the
-- entries that were firm, and data stands apart there; it is roomy, too.
pub record Outlasts {F : Type 0} (state : F → FlashState) (old new : Seen F) : Type 0 where
  pub es : List Entry
  pub longer : IsLonger old.book new.book es
  pub none : All (λ e. IsFalse (completes e)) es
  pub images : Runs (state old.flash) (state new.flash) (λ m image. IsSafeImage old.book.config old.book.found old.book.opened new.book.entries old.keeper.firm (length old.book.entries) image)
  pub isolated : KeepsPart old.book new.book (state old.flash) (state new.flash)
  pub handed : new.handed ≡ old.handed
  pub roomy : LeavesRoomy state old new
  pub more : old.keeper.firm ≤ new.keeper.firm

-- no stop loses what is firm, and data is isolated by the history where the cells that were opened kept it apart
pub record IsSafeNow (flash : FlashState) (b : BookSeen) (k : KeeperSeen) : Type 0 where
  pub safe : IsSafe b k.saver k.firm flash
  pub isolated : KeepsIsolated flash b
