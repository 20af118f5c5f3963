-- How the reader goes on from frame to frame.
use Rattle.std.specs.Prelude.{◌≡◌, ℕ, ◌+◌, ◌*◌, ◌^◌, ◌≤◌, List, ◌++◌, length, take, drop, MatchOption}
use Rattle.std.specs.List.{sum_by}
use Rattle.fdp_base.specs.declared.command.Command.{Command}
use Rattle.fdp_base.specs.CommandKinds.{blocks_read}
use Rattle.fdp_binary.specs.declared.frames.Reached.{Reached}
use Rattle.fdp_binary.specs.declared.front.TheConstants.{FRONT}
use Rattle.fdp_binary.specs.declared.next.Next.{Next}
use Rattle.fdp_binary.specs.declared.next.Next.TheVariants as nexts
use Rattle.fdp_binary.specs.declared.next.Passed.{Passed}
use Rattle.fdp_binary.specs.Asked.{reads_in}
use Rattle.fdp_binary.specs.Frames.{IsFrame}
use Rattle.fdp_binary.specs.Streams.{AreFew, HasLength, HasRoom, IsShort, IsStream, Lacks, Opens}

-- head and entry have no fault
pub record IsPassed (block : ℕ) (commands : List Command) (bytes : List ℕ) (passed : Passed) : Type 0 where
  pub opens : Opens bytes passed.front passed.asked
  pub sized : HasLength block passed.front passed.asked
  pub room : HasRoom commands (reads_in passed.asked passed.front.entry)

-- the bytes begin with a frame that may follow, which has so many bytes of data
pub record IsWhole (block : ℕ) (commands : List Command) (bytes : List ℕ) (command : Command) (len : ℕ) : Type 0 where
  pub there : FRONT + len ≤ length bytes
  pub frame : IsFrame block (take (FRONT + len) bytes) command
  pub room : HasRoom commands (blocks_read command)

abbrev pub IsNext : ℕ → List Command → List ℕ → Next → Type 0
IsNext block commands bytes nexts.Short = IsShort block commands bytes
IsNext block commands bytes (nexts.Bad kind) = Lacks block commands bytes kind
IsNext block commands bytes (nexts.Whole command len) = IsWhole block commands bytes command len

-- the commands are these and more
pub record IsLonger (old new : List Command) : Type 0 where
  pub added : List Command
  pub grown : new ≡ old ++ added

-- so many bytes are the frames of the commands that were added, each at most 2^33 bytes
pub record GoesOn (block : ℕ) (old new : List Command) (bytes : List ℕ) (done : ℕ) : Type 0 where
  pub added : List Command
  pub grown : new ≡ old ++ added
  pub within : done ≤ length bytes
  pub stream : IsStream block (take done bytes) added
  pub few : AreFew new
  pub bounded : done ≤ 2 ^ 33 * length added

-- all whole frames were read, and behind them stands less than one, or one with this fault
pub record Reaches (block : ℕ) (old new : List Command) (bytes : List ℕ) (reached : Reached) : Type 0 where
  pub goes : GoesOn block old new bytes reached.done
  pub counted : reached.blocks ≡ sum_by blocks_read new
  pub behind : MatchOption reached.fault (IsShort block new (drop reached.done bytes)) (Lacks block new (drop reached.done bytes))
