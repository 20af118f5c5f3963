-- Streams: lists of frames, and where bytes stop being one.
use Rattle.std.specs.Prelude.{◌≡◌, ◌⊎◌, ℕ, ◌+◌, ◌<◌, ◌≤◌, List, [], ◌∷◌, ◌++◌, length, flat_map, Option, Some}
use Rattle.std.specs.List.{AllZip, sum_by}
use Rattle.fdp_base.specs.declared.command.Command.{Command}
use Rattle.fdp_base.specs.declared.limits.TheConstants.{MOST_TRACE_BLOCKS, MOST_TRACE_COMMANDS}
use Rattle.fdp_base.specs.CommandKinds.{blocks_read}
use Rattle.fdp_binary.specs.declared.asked.Asked.{Asked}
use Rattle.fdp_binary.specs.declared.asked.Asked.TheVariants as kinds
use Rattle.fdp_binary.specs.declared.fault.StreamFault.{StreamFault}
use Rattle.fdp_binary.specs.declared.fault.StreamFaultKind.{StreamFaultKind}
use Rattle.fdp_binary.specs.declared.fault.StreamFaultKind.TheVariants as faults
use Rattle.fdp_binary.specs.declared.front.Front.{Front}
use Rattle.fdp_binary.specs.declared.front.TheConstants.{FRONT}
use Rattle.fdp_binary.specs.Asked.{Asks, IsAsked, data_in, reads_in}
use Rattle.fdp_binary.specs.Front.{Begins}
use Rattle.fdp_binary.specs.Frames.{IsFrame}

-- no more commands, and no more blocks over the reads, than a trace may have
abbrev pub AreFew : List Command → Type 0
AreFew commands = (length commands ≤ MOST_TRACE_COMMANDS) × (sum_by blocks_read commands ≤ MOST_TRACE_BLOCKS)

-- the bytes are a stream of the commands: their frames, one behind another
pub record IsStream (block : ℕ) (bytes : List ℕ) (commands : List Command) : Type 0 where
  pub frames : List (List ℕ)
  pub whole : bytes ≡ flat_map (λ frame. frame) frames
  pub each : AllZip (IsFrame block) frames commands
  pub few : AreFew commands

-- the longest stream that the bytes begin with, and the rest: no frame that may follow begins the rest
pub record Splits (block : ℕ) (bytes : List ℕ) (commands : List Command) (rest : List ℕ) : Type 0 where
  pub front : List ℕ
  pub whole : bytes ≡ front ++ rest
  pub stream : IsStream block front commands
  pub longest : (frame more : List ℕ) (command : Command) → rest ≡ frame ++ more → IsFrame block frame command → AreFew (commands ++ command ∷ []) → ⊥

-- ---- what stands behind a stream

-- a command that reads so many blocks may follow these
abbrev pub HasRoom : List Command → ℕ → Type 0
HasRoom commands blocks = (length commands < MOST_TRACE_COMMANDS) × (sum_by blocks_read commands + blocks ≤ MOST_TRACE_BLOCKS)

-- the bytes begin with a head and an entry that asks for this kind, or for none that the drive serves; it is no create
pub record Opens (bytes : List ℕ) (front : Front) (asked : Option Asked) : Type 0 where
  pub begins : Begins front bytes
  pub asks : IsAsked front.admin front.entry asked
  pub kept : asked ≡ Some kinds.Create → ⊥

-- the head says as many bytes of data as the entry has
abbrev pub HasLength : ℕ → Front → Option Asked → Type 0
HasLength block front asked = front.len ≡ data_in block asked front.entry

-- the first thing that is wrong with what stands behind these commands, told once head and entry are there
abbrev pub Lacks : ℕ → List Command → List ℕ → StreamFaultKind → Type 0
Lacks block commands rest faults.Head = (FRONT ≤ length rest) × ((front : Front) → Begins front rest → ⊥)
Lacks block commands rest faults.Create = (front : Front) × Begins front rest × Asks front.admin front.entry kinds.Create
Lacks block commands rest faults.Length = (front : Front) × (asked : Option Asked) × Opens rest front asked × (HasLength block front asked → ⊥)
Lacks block commands rest faults.Many = (front : Front) × (asked : Option Asked) × Opens rest front asked × HasLength block front asked × (HasRoom commands (reads_in asked front.entry) → ⊥)
Lacks block commands rest faults.Cut = ⊥

-- less than head and entry; or both, of a frame that may follow, and less than its data
abbrev pub IsShort : ℕ → List Command → List ℕ → Type 0
IsShort block commands rest =
    (length rest < FRONT)
    ⊎ ((front : Front) × (asked : Option Asked) × Opens rest front asked × HasLength block front asked × HasRoom commands (reads_in asked front.entry) × (length rest < FRONT + front.len))

-- behind the longest stream that the bytes begin with, at this offset, the first frame that is none has this fault
pub record IsFaultOf (block : ℕ) (bytes : List ℕ) (commands : List Command) (fault : StreamFault) : Type 0 where
  pub rest : List ℕ
  pub splits : Splits block bytes commands rest
  pub place : fault.at + length rest ≡ length bytes
  pub lacks : Lacks block commands rest fault.kind

-- the bytes end within a frame that has no fault, which begins at this offset
pub record IsCutAt (block : ℕ) (bytes : List ℕ) (commands : List Command) (at : ℕ) : Type 0 where
  pub rest : List ℕ
  pub splits : Splits block bytes commands rest
  pub place : at + length rest ≡ length bytes
  pub some : 0 < length rest
  pub short : IsShort block commands rest

-- why the bytes are no stream
abbrev pub IsBroken : ℕ → List ℕ → StreamFault → Type 0
IsBroken block bytes fault = (commands : List Command) × (IsFaultOf block bytes commands fault ⊎ ((fault.kind ≡ faults.Cut) × IsCutAt block bytes commands fault.at))
