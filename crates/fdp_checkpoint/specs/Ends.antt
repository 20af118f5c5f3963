-- How the reading of a checkpoint ends.
use Rattle.std.specs.Prelude.{◌≡◌, ℕ, Bool, true, false, List, Result, Ok, Err}
use Rattle.fdp_flash.specs.Failing.{FailsLast}
use Rattle.fdp_flash.specs.FlashState.{FlashState}
use Rattle.fdp_snapshot.specs.declared.state.State.{State}
use Rattle.fdp_checkpoint.specs.declared.fault.CheckpointFault.{CheckpointFault}
use Rattle.fdp_checkpoint.specs.declared.fault.CheckpointFault.TheVariants as faults
use Rattle.fdp_checkpoint.specs.declared.fault.FoundCheckpoint.{FoundCheckpoint}
use Rattle.fdp_checkpoint.specs.declared.fault.ContentFault.{ContentFault}
use Rattle.fdp_checkpoint.specs.declared.fault.ContentFault.TheVariants as contents
use Rattle.fdp_checkpoint.specs.declared.fault.CollectFault.{CollectFault}
use Rattle.fdp_checkpoint.specs.declared.fault.CollectFault.TheVariants as misses

-- a fetch was done, or it failed
abbrev pub EndsFetch : FlashState → FlashState → Bool → Type 0
EndsFetch old new true = new.faults ≡ old.faults
EndsFetch old new false = FailsLast old new new.moment

-- fetches were done, or the last of them failed, or memory was wanting
abbrev pub EndsCollect : FlashState → FlashState → Result (List ℕ) CollectFault → Type 0
EndsCollect old new (Ok bytes) = new.faults ≡ old.faults
EndsCollect old new (Err (misses.Failed moment)) = FailsLast old new moment
EndsCollect old new (Err misses.NoMemory) = new.faults ≡ old.faults

-- a reading failed only where its last call did; else the flash counted no fault
abbrev pub EndsContent : FlashState → FlashState → Result State ContentFault → Type 0
EndsContent old new (Ok state) = new.faults ≡ old.faults
EndsContent old new (Err (contents.Bad page)) = new.faults ≡ old.faults
EndsContent old new (Err (contents.Failed moment)) = FailsLast old new moment
EndsContent old new (Err contents.NoMemory) = new.faults ≡ old.faults

abbrev pub EndsRead : FlashState → FlashState → Result FoundCheckpoint CheckpointFault → Type 0
EndsRead old new (Ok found) = new.faults ≡ old.faults
EndsRead old new (Err faults.NoCheckpoint) = new.faults ≡ old.faults
EndsRead old new (Err (faults.Bad page)) = new.faults ≡ old.faults
EndsRead old new (Err (faults.Failed moment)) = FailsLast old new moment
EndsRead old new (Err faults.NoMemory) = new.faults ≡ old.faults
