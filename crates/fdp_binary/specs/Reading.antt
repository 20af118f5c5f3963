-- A reader of a stream as its callers see it.
use Rattle.std.specs.Prelude.{◌≡◌, ℕ, ◌+◌, ◌*◌, ◌^◌, ◌≤◌, List, length, Option, Some, None, MatchOption, Result, Ok, Err}
use Rattle.std.specs.List.{sum_by}
use Rattle.fdp_base.specs.declared.command.Command.{Command}
use Rattle.fdp_binary.specs.declared.fault.FeedError.{FeedError}
use Rattle.fdp_binary.specs.declared.fault.FeedError.TheVariants as errors
use Rattle.fdp_binary.specs.declared.fault.StreamFault.{StreamFault}
use Rattle.fdp_base.specs.CommandKinds.{blocks_read}
use Rattle.fdp_base.specs.Geometry.{IsBlockSize}
use Rattle.fdp_binary.specs.Streams.{AreFew, IsFaultOf, IsShort, Splits}

-- the block size, the commands so far, the bytes behind their frames, and where those begin; once there is a fault, nothing is read any more
pub record Stream : Type 0 where
  pub block : ℕ
  pub commands : List Command
  pub rest : List ℕ
  pub at : ℕ
  pub fault : Option StreamFault

-- nothing is wrong so far: the commands are those of the longest stream that the bytes begin with, and the rest begins a frame
pub record IsWaiting (s : Stream) (bytes : List ℕ) : Type 0 where
  pub splits : Splits s.block bytes s.commands s.rest
  pub place : s.at + length s.rest ≡ length bytes
  pub short : IsShort s.block s.commands s.rest

-- the reader has been fed these bytes, in whatever pieces
abbrev pub HasRead : Stream → List ℕ → Type 0
HasRead s bytes = MatchOption s.fault (IsWaiting s bytes) (IsFaultOf s.block bytes s.commands)

-- what a piece leaves; once there is a fault, it stands, and where memory runs out all is as it was
abbrev pub IsFed : Stream → Stream → List ℕ → Result (Unit {0}) FeedError → Type 0
IsFed old new bytes (Ok done) = (new.block ≡ old.block) × (new.fault ≡ None) × HasRead new bytes
IsFed old new bytes (Err (errors.Fault fault)) = (new.block ≡ old.block) × (new.fault ≡ Some fault) × HasRead new bytes
IsFed old new bytes (Err errors.NoMemory) = new ≡ old

-- the blocks that the commands read, and where the rest begins: behind at most 2^33 bytes for each command
pub record AreParts (block : ℕ) (commands : List Command) (blocks at : ℕ) : Type 0 where
  pub sized : IsBlockSize block
  pub few : AreFew commands
  pub counted : blocks ≡ sum_by blocks_read commands
  pub bounded : at ≤ 2 ^ 33 * length commands
