-- A group as contracts see it, and its flash beside its history.
use Rattle.std.specs.Prelude.{◌≡◌, ◌+◌, ◌^◌, ◌<◌, IsTrue, Some}
use Rattle.std.specs.List.{list_any}
use Rattle.fdp_base.specs.declared.entry.Totals.{Totals}
use Rattle.fdp_base.specs.Placement.{geometry_of}
use Rattle.fdp_relocation.specs.fdp_book.Book.{BookSeen, point_in, written_in}
use Rattle.fdp_flash.specs.FlashState.{FlashState}
use Rattle.fdp_image.specs.Reads.{reads_as}
use Rattle.fdp_relocation.specs.fdp_keeper.Keeper.{KeeperSeen}
use Rattle.fdp_loading.specs.fdp_isolation.Begun.{OpenedApart}
use Rattle.fdp_loading.specs.fdp_isolation.Isolated.{LeavesUsed}
use Rattle.fdp_loading.specs.fdp_isolation.Laned.{IsKnown}
use Rattle.fdp_loading.specs.fdp_ledger.declared.counts.Counts.{Counts}
use Rattle.fdp_loading.specs.fdp_ledger.Told.{is_media_reply}
use Rattle.fdp_relocation.specs.fdp_locations.Stored.{HoldsWritten}
use Rattle.fdp_relocation.specs.Collected.{Stage}
use Rattle.fdp_relocation.specs.fdp_readings.Drawn.{drawn}
use Rattle.fdp_rules.specs.Legal.{IsLegal}

pub record Seen (F : Type 0) : Type 0 where
  -- the history, what is kept of the pages, and the steps for which there is room
  pub book : BookSeen
  -- what saves the drive: its system areas, what a checkpoint says, and how many entries of the history are firm
  pub keeper : KeeperSeen
  -- what the flash had counted when it was handed in
  pub handed : Counts
  pub flash : F

-- the parts with which relocation works
abbrev pub stage_of : {F : Type 0} → Seen F → Stage F
stage_of s = record { book = s.book; keeper = s.keeper; flash = s.flash }

-- the count of calls stands below its last value, so that each call has a moment of its own
abbrev pub HasMoments : FlashState → Type 0
HasMoments flash = flash.moment + 1 < 2 ^ 64

-- the history is legal; where one of its replies tells of a media error, as long as each call has a moment of its own
abbrev pub IsLegalOver : FlashState → BookSeen → Type 0
IsLegalOver flash b = (IsTrue (list_any is_media_reply b.entries) → HasMoments flash) → IsLegal flash.told b.config b.found b.entries

-- where the cells are told, each page that the history wrote holds what it wrote, and behind the pages that were used each unit is blank
abbrev pub HoldsHistory : FlashState → BookSeen → Type 0
HoldsHistory flash b = IsTrue flash.told → HoldsWritten flash.geometry flash.cells (written_in b) b.pages.units

-- the cells read as just what the history leaves, but for the sums: its setting, namespaces and events, and each block on the page where it stands
abbrev pub ReadsAsEnd : FlashState → BookSeen → Type 0
ReadsAsEnd flash b = (sums : Totals) × (reads_as b.config flash.cells ≡ Some (record (drawn b.config (point_in b)) { totals = sums }))

-- where the cells are told, and kept data apart when the run began: each unit that had been used by then gets no page before it is erased
abbrev pub LeavesOpened : FlashState → BookSeen → Type 0
LeavesOpened flash b = IsTrue flash.told → OpenedApart b.config b.found b.opened → LeavesUsed b.config b.opened b.entries flash.cells

-- a book in order, over a flash that is cut as configured and holds the history
pub record Stands (flash : FlashState) (b : BookSeen) : Type 0 where
  pub known : IsKnown b
  pub geometry : flash.geometry ≡ geometry_of b.config
  pub stored : HoldsHistory flash b
