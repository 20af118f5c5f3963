-- What the crews of a drive have done once its lock has ended.
use Rattle.std.specs.Prelude.{◌≡◌, ◌≢◌, ◌⊎◌, ℕ, ◌+◌, ◌<◌, ◌≤◌, List, [], get_or, length}
use Rattle.fdp_base.specs.declared.command.Command.{Command}
use Rattle.fdp_base.specs.declared.entry.Entry.{Entry}
use Rattle.fdp_rules.specs.History.{Found}
use Rattle.fdp_rules.specs.Queue.{IsSilent, KeepsQueueOrder, StartsOwn}
use Rattle.fdp_workers.specs.declared.ends.End.{End}
use Rattle.fdp_workers.specs.declared.ends.End.TheVariants as ends
use Rattle.fdp_workers.specs.declared.receipt.Receipt.{Receipt}
use Rattle.fdp_workers.specs.Queues.{ServesWhole, receipts_of}
use Rattle.fdp_workers.specs.Run.{Run}
use Rattle.fdp_crews.specs.Crews.{LeavesSome, trace_of}
use Rattle.fdp_base.specs.declared.limits.TheConstants.{MOST_STEPS}

-- the queue is that of one of the traces
pub record HasTrace (traces : List (List Command)) (queue : ℕ) : Type 0 where
  pub least : 0 < queue
  pub most : queue ≤ length traces

-- one of the queues has not completed its whole trace
pub record HasLeft (traces : List (List Command)) (es : List Entry) : Type 0 where
  pub queue : ℕ
  pub is_queue : HasTrace traces queue
  pub left : LeavesSome queue (trace_of traces queue) es

-- the receipts of a host are those of its queue. There is a list of receipts for each trace, or none for any where memory was wanting at the beginning
pub record AreReceipts (f : Found) (traces : List (List Command)) (receipts : List (List Receipt)) (es : List Entry) : Type 0 where
  pub count : (length receipts ≡ length traces) ⊎ (receipts ≡ [])
  pub each : (i : ℕ) → i < length receipts → get_or receipts i [] ≡ receipts_of f (i + 1) es

-- no queue has begun a command, and there are no receipts
pub record IsUnserved (receipts : List (List Receipt)) (es : List Entry) : Type 0 where
  pub no_receipts : receipts ≡ []
  pub silent : (queue : ℕ) → queue ≢ 0 → IsSilent queue es

-- each trace is whole, and its receipts are there; or one is not whole, and the drive has made all the steps that it may make; or one is not whole for want of memory, or memory was wanting before any was begun
abbrev pub EndsAs : Run → List (List Command) → List (List Receipt) → List Entry → ℕ → End → Type 0
EndsAs run traces receipts es spent ends.Whole = ((queue : ℕ) → HasTrace traces queue → ServesWhole run queue (trace_of traces queue) es) × (length receipts ≡ length traces)
EndsAs run traces receipts es spent ends.Turns = HasLeft traces es × (spent ≡ MOST_STEPS)
EndsAs run traces receipts es spent ends.NoMemory = HasLeft traces es ⊎ IsUnserved receipts es

-- A history in which crews served these traces: each queue has completed a beginning of its trace, in order, each command once, and each write that it let
-- go is the command of its trace with that number; every other queue is silent.
pub record IsShift (run : Run) (traces : List (List Command)) (receipts : List (List Receipt)) (es : List Entry) (spent : ℕ) (end : End) : Type 0 where
  pub orders : (queue : ℕ) → HasTrace traces queue → KeepsQueueOrder queue (trace_of traces queue) es
  pub starts : (queue : ℕ) → HasTrace traces queue → StartsOwn queue (trace_of traces queue) es
  pub others : (queue : ℕ) → length traces < queue → IsSilent queue es
  pub receipts_are : AreReceipts run.found traces receipts es
  pub ended : EndsAs run traces receipts es spent end
