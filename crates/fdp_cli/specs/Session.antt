-- One drive on its flash, from the flash that is handed in to the end of the traces.
use Rattle.std.specs.Prelude.{◌≡◌, ℕ, ◌<◌, ◌≤◌, All, IsFalse, IsTrue, List, false, true}
use Rattle.std.specs.List.{list_any}
use Rattle.fdp_base.specs.declared.command.Command.{Command}
use Rattle.fdp_base.specs.declared.config.DriveConfig.{DriveConfig}
use Rattle.fdp_base.specs.declared.entry.Entry.{Entry}
use Rattle.fdp_base.specs.Counts.{Rose}
use Rattle.fdp_base.specs.Placement.{geometry_of}
use Rattle.fdp_drive.specs.fdp_board.Board.{AreCharged, IsRoomySince, IsSafeSince}
use Rattle.fdp_drive.specs.fdp_book.Book.{point_in}
use Rattle.fdp_drive.specs.fdp_core.Loading.{IsLoaded}
use Rattle.fdp_drive.specs.fdp_core.Seen.{HasMoments, HoldsHistory, IsLegalOver, ReadsAsEnd, Seen}
use Rattle.fdp_drive.specs.Session.{HoldsTraces, IsSession, KeepsOrders, OnlyThese}
use Rattle.fdp_flash.specs.declared.cell.Cell.{Cell}
use Rattle.fdp_flash.specs.FlashState.{FlashState}
use Rattle.fdp_image.specs.Kept.{AreFirm, StandsForBeginning}
use Rattle.fdp_drive.specs.fdp_loading.Opens.{Opens}
use Rattle.fdp_drive.specs.fdp_isolation.Begun.{OpenedApart}
use Rattle.fdp_drive.specs.fdp_isolation.Isolated.{IsIsolatedDrive, LeavesUsed}
use Rattle.fdp_drive.specs.fdp_survival.Apart.{ReadsIsolated}
use Rattle.fdp_drive.specs.fdp_ledger.Counted.{CountedSince, counts_of}
use Rattle.fdp_drive.specs.fdp_ledger.Emptied.{OnlyErasesEmpty}
use Rattle.fdp_drive.specs.fdp_ledger.Start.{start_of}
use Rattle.fdp_drive.specs.fdp_ledger.Told.{is_media_reply}
use Rattle.fdp_drive.specs.fdp_roominess.Capacity.{exceeds_capacity}
use Rattle.fdp_drive.specs.fdp_roominess.Run.{BeganRoomy, IsRoomyImage, StaysRoomy, WearsByFailure}
use Rattle.fdp_make.specs.Load.{make_traces}
use Rattle.fdp_make.specs.Summary.{same_blocks, unrefuted_blocks}
use Rattle.fdp_ranges.specs.Ranged.{IsRanged}
use Rattle.fdp_rules.specs.History.{Found}
use Rattle.fdp_drive.specs.fdp_workers.declared.ends.End.{End}
use Rattle.fdp_drive.specs.fdp_workers.declared.ends.End.TheVariants as ends
use Rattle.fdp_drive.specs.fdp_workers.declared.receipt.Receipt.{Receipt}

-- whatever the cells that are given back read as, they are an isolated image by that, and so is whatever a stop in a call since may have left
pub record StaysIsolated (c : DriveConfig) (handed given : FlashState) : Type 0 where
  pub cells : ReadsIsolated c given.cells
  pub images : (m : ℕ) (image : List Cell) → handed.moment < m → m ≤ given.moment → given.during m image → ReadsIsolated c image

-- the cells that are given back open, and so does whatever a stop in a call since the flash was handed in may have left: the next run takes it
pub record StaysOpen (c : DriveConfig) (handed given : FlashState) : Type 0 where
  pub cells : IsTrue given.told → Opens c given.cells
  pub images : IsTrue given.told → (m : ℕ) (image : List Cell) → handed.moment < m → m ≤ given.moment → given.during m image → Opens c image

-- what the flash that is given back is to the history of its drive: it counted what the history tells since it was handed in, each media error has the moment
-- of one of its calls that failed, and none did where it promises that; it holds what the history put into its pages, and data stands apart there; over an
-- image a data unit that is all blank was so in it, unless an entry tells that it was erased, or that its erase failed. Where
-- it tells its cells, these stand for a beginning of the history in which each completed change is: what the next run goes on from. Whatever a stop in
-- a call of the run may have left stands for a beginning with each change that was completed at an earlier moment, and data stands apart there as well.
-- All of this the next run takes. While no saving is in doubt, which one is only where a call failed, it reads just what the whole history left, but for the sums.
-- Where the flash that was handed in was isolated, whatever it read as, what was opened keeps data apart, and the flash stays isolated; over an image a unit that
-- had been used gets no page before it is erased. Where it was roomy, the run began with room; one that did wore a group only where a call failed, and where none did it leaves a roomy image, as does a stop in any
-- call of it, and with one group it ended no command with Capacity Exceeded
pub record HoldsRecord {F : Type 0} (state : F → FlashState) (handed : F) (group : Seen F) : Type 0 where
  pub told_is : (state group.flash).told ≡ (state handed).told
  pub counted : CountedSince (counts_of (state handed)) (state group.flash) (start_of group.book) group.book.entries
  pub charged : AreCharged (state handed).moment (state group.flash) group.book.entries
  pub unfailing : IsTrue (state handed).reliable → (state group.flash).faults ≡ (state handed).faults
  pub cells : HoldsHistory (state group.flash) group.book
  pub emptied : IsTrue (state handed).told → IsTrue group.book.found.is_image → OnlyErasesEmpty (geometry_of group.book.config) (state handed).cells (state group.flash).cells group.book.entries
  pub apart : IsTrue (state group.flash).told → OpenedApart group.book.config group.book.found group.book.opened → IsIsolatedDrive group.book.config (point_in group.book) group.book.entries (state group.flash).cells
  pub opened : IsTrue (state handed).told → ReadsIsolated group.book.config (state handed).cells → OpenedApart group.book.config group.book.found group.book.opened
  pub used : IsTrue (state handed).told → IsTrue group.book.found.is_image → ReadsIsolated group.book.config (state handed).cells → LeavesUsed group.book.config (state handed).cells group.book.entries (state group.flash).cells
  pub isolated : IsTrue (state handed).told → ReadsIsolated group.book.config (state handed).cells → StaysIsolated group.book.config (state handed) (state group.flash)
  pub began : IsTrue (state handed).told → IsRoomyImage group.book.config (state handed).cells → BeganRoomy (state group.flash).told group.book
  pub worn : WearsByFailure (state handed).faults (state group.flash).faults (state group.flash).told group.book
  pub roomy : IsTrue (state group.flash).told → StaysRoomy (state handed).faults (state group.flash).faults (state group.flash).told group.book (state group.flash).cells
  pub stays_roomy : IsRoomySince (counts_of (state handed)) (state group.flash) group.book
  pub fits : group.book.config.groups ≡ 1 → BeganRoomy (state group.flash).told group.book → (Rose (state handed).faults (state group.flash).faults → ⊥) → IsFalse (list_any exceeds_capacity group.book.entries)
  pub firm : AreFirm group.book.entries group.keeper.firm
  pub stands : IsTrue (state group.flash).told → StandsForBeginning group.book.config group.book.found group.book.entries group.keeper.firm (state group.flash).cells
  pub sure : IsTrue (state group.flash).told → group.keeper.saver.in_doubt ≡ false → ReadsAsEnd (state group.flash) group.book
  pub doubt : group.keeper.saver.in_doubt ≡ true → Rose (state handed).faults (state group.flash).faults
  pub stops : IsSafeSince (state handed).moment (state group.flash) group.book
  pub opens : StaysOpen group.book.config (state handed) (state group.flash)

-- A drive of this configuration was opened on this flash, or made there, and served the traces to this end, with hosts and collectors beside one another. What
-- it began with is what the image stood for; its history since is legal, and in it each queue has completed a beginning of its trace, in order, each command
-- once, and let go no other write than those. A queue without a trace has completed nothing. Each number of the history is one of its type. The flash is given back.
pub record IsRun {F : Type 0} (state : F → FlashState) (c : DriveConfig) (traces : List (List Command)) (end : End) (handed given : F) (f : Found) (es : List Entry) : Type 0 where
  pub old : Seen F
  pub new : Seen F
  pub receipts : List (List Receipt)
  pub loaded : IsLoaded state c handed old
  pub served : IsSession state old new traces receipts end
  pub found_is : new.book.found ≡ f
  pub entries_are : new.book.entries ≡ es
  pub flash_is : new.flash ≡ given
  pub legal : IsLegalOver (state given) new.book
  pub orders : KeepsOrders c traces es
  pub others : OnlyThese traces es
  pub ranged : All IsRanged es
  pub held : HoldsRecord state handed new

-- each call has a moment of its own, where one of the replies tells of a media error
abbrev pub HasOwnMoments : FlashState → List Entry → Type 0
HasOwnMoments flash es = IsTrue (list_any is_media_reply es) → HasMoments flash

-- Where the traces are those of a generated load, the blocks that its summary counts are just those that equal the last applied write of the same queue
-- to that block before the read, or, where there is none, the block as the run found it. It is said over a flash that tells its cells; where
-- one of the replies tells of a media error, as long as each call has a moment of its own.
abbrev pub CountsSame : FlashState → DriveConfig → List (List Command) → Found → List Entry → Type 0
CountsSame flash c traces f es =
    (number : ℕ) → traces ≡ make_traces number → IsTrue flash.told → HasOwnMoments flash es
    → unrefuted_blocks c.block es ≡ same_blocks c f es

-- each queue has completed its whole trace
pub record IsRecordOf {F : Type 0} (state : F → FlashState) (c : DriveConfig) (traces : List (List Command)) (handed given : F) (f : Found) (es : List Entry) : Type 0 where
  pub run : IsRun state c traces ends.Whole handed given f es
  pub whole : HoldsTraces c traces es
  pub same : CountsSame (state given) c traces f es

-- it served a part of the traces: a command needs a further step, and the drive has made all that it may make, or memory was wanting
abbrev pub IsCut : {F : Type 0} → (F → FlashState) → DriveConfig → List (List Command) → End → F → F → Type 0
IsCut state c traces end handed given = (f : Found) × (es : List Entry) × IsRun state c traces end handed given f es
