-- What a session of several traces does to the history of a drive.
use Rattle.std.specs.Prelude.{◌≡◌, ◌≢◌, ℕ, ◌<◌, ◌≤◌, ◌⊎◌, List, length}
use mathlib.Core.List.{IsPrefix}
use Rattle.fdp_base.specs.declared.command.Command.{Command}
use Rattle.fdp_base.specs.declared.config.DriveConfig.{DriveConfig}
use Rattle.fdp_base.specs.declared.entry.Entry.{Entry}
use Rattle.fdp_board.specs.Board.{AreCharged, EmptiedAreTold, IsRoomySince, IsSafeSince, IsUnfailing, StepsAreTold}
use Rattle.fdp_crews.specs.fdp_book.Book.{BookSeen}
use Rattle.fdp_crews.specs.fdp_core.Seen.{Seen}
use Rattle.fdp_crews.specs.Crews.{trace_of}
use Rattle.fdp_crews.specs.Shifts.{AreReceipts, IsUnserved}
use Rattle.fdp_flash.specs.FlashState.{FlashState}
use Rattle.fdp_rules.specs.Queue.{HoldsWhole, IsSilent, KeepsQueueOrder, StartsOwn}
use Rattle.fdp_rules.specs.Step.{IsQueue}
use Rattle.fdp_crews.specs.fdp_workers.declared.ends.End.{End}
use Rattle.fdp_crews.specs.fdp_workers.declared.ends.End.TheVariants as ends
use Rattle.fdp_crews.specs.fdp_workers.declared.receipt.Receipt.{Receipt}
use Rattle.fdp_base.specs.declared.limits.TheConstants.{MOST_STEPS}

-- ---- what each queue gets

-- each queue has completed a beginning of its trace, in order, each command once
abbrev pub KeepsOrders : DriveConfig → List (List Command) → List Entry → Type 0
KeepsOrders c traces es = (queue : ℕ) → IsQueue c queue → KeepsQueueOrder queue (trace_of traces queue) es

-- each queue has completed its whole trace, in order, each command once
abbrev pub HoldsTraces : DriveConfig → List (List Command) → List Entry → Type 0
HoldsTraces c traces es = (queue : ℕ) → IsQueue c queue → HoldsWhole queue (trace_of traces queue) es

-- a queue without a trace completes nothing, and lets no write go
abbrev pub OnlyThese : List (List Command) → List Entry → Type 0
OnlyThese traces es = (queue : ℕ) → length traces < queue → IsSilent queue es

-- each write that a queue let go is the command of its trace with that number, in the order of the trace, so none twice
abbrev pub StartsTheirs : DriveConfig → List (List Command) → List Entry → Type 0
StartsTheirs c traces es = (queue : ℕ) → IsQueue c queue → StartsOwn queue (trace_of traces queue) es

-- a queue has not completed its whole trace
pub record HasLeft (c : DriveConfig) (traces : List (List Command)) (es : List Entry) : Type 0 where
  pub queue : ℕ
  pub is_queue : IsQueue c queue
  pub left : HoldsWhole queue (trace_of traces queue) es → ⊥

-- ---- the end

-- each trace is whole, and its receipts are there; or one is not, since no further step may be made; or one is not for want of memory, or memory was wanting before any was begun
abbrev pub EndsAs : BookSeen → List (List Command) → List (List Receipt) → End → Type 0
EndsAs b traces receipts ends.Whole = HoldsTraces b.config traces b.entries × (length receipts ≡ length traces)
EndsAs b traces receipts ends.Turns = HasLeft b.config traces b.entries × (b.spent ≡ MOST_STEPS)
EndsAs b traces receipts ends.NoMemory = HasLeft b.config traces b.entries ⊎ IsUnserved receipts b.entries

-- the drive is the same one, over the same flash, and began with the same
pub record IsSameDrive {F : Type 0} (state : F → FlashState) (old new : Seen F) : Type 0 where
  pub config_is : new.book.config ≡ old.book.config
  pub found_is : new.book.found ≡ old.book.found
  pub opened_is : new.book.opened ≡ old.book.opened
  pub handed_is : new.handed ≡ old.handed
  pub told_is : (state new.flash).told ≡ (state old.flash).told
  pub images_are : (state new.flash).tells_images ≡ (state old.flash).tells_images
  pub reliable_is : (state new.flash).reliable ≡ (state old.flash).reliable

-- Entries were added to the history, in which each queue was served its trace to this end, whatever the order of the steps of hosts and collectors. The
-- receipts of a trace are the completions of its queue. Whatever a stop since the flash was handed in may have left stands for a beginning of the history
-- with each change that was completed at an earlier moment, and data stands apart there where the cells that were opened kept it apart, and it is roomy
-- where the run began with room and no call failed; each media error has the moment of a call that failed since. Each step that was made added an entry, and
-- each data unit that was emptied has one.
pub record IsSession {F : Type 0} (state : F → FlashState) (old new : Seen F) (traces : List (List Command)) (receipts : List (List Receipt)) (end : End) : Type 0 where
  pub same : IsSameDrive state old new
  pub goes_on : IsPrefix old.book.entries new.book.entries
  pub orders : KeepsOrders new.book.config traces new.book.entries
  pub starts : StartsTheirs new.book.config traces new.book.entries
  pub others : OnlyThese traces new.book.entries
  pub receipts_are : AreReceipts new.book.found traces receipts new.book.entries
  pub ended : EndsAs new.book traces receipts end
  pub safe : IsSafeSince new.handed.moment (state new.flash) new.book
  pub roomy : IsRoomySince new.handed (state new.flash) new.book
  pub charged : AreCharged new.handed.moment (state new.flash) new.book.entries
  pub unfailing : IsUnfailing new.handed (state new.flash)
  pub steps : StepsAreTold new.book
  pub emptied : EmptiedAreTold (state new.flash) new.book
