-- The commands of a stream that a run finds, or why it finds none.
use Rattle.std.specs.Prelude.{◌≡◌, ℕ, ◌≤◌, IsTrue, List, length, Option, Some, None}
use Rattle.fdp_base.specs.declared.command.Command.{Command}
use Rattle.fdp_base.specs.declared.limits.TheConstants.{LONGEST_TRACE}
use Rattle.fdp_binary.specs.declared.fault.FeedError.{FeedError}
use Rattle.fdp_binary.specs.declared.fault.FeedError.TheVariants as errors
use Rattle.fdp_binary.specs.declared.fault.StreamFault.{StreamFault}
use Rattle.fdp_binary.specs.Streams.{IsBroken, IsStream}
use Rattle.fdp_io.specs.Bench.{BenchState}
use Rattle.fdp_finding.specs.declared.no_stream.NoStream.{NoStream}
use Rattle.fdp_finding.specs.declared.no_stream.NoStream.TheVariants.{Absent, Broken, TooLong}
use Rattle.fdp_finding.specs.Traced.{IsTooLong}

-- a text that may be there is there, of at most as many bytes as a trace may have, and is a stream of these commands for blocks of this size
pub record IsStreamText (block : ℕ) (found : Option (List ℕ)) (commands : List Command) : Type 0 where
  pub text : List ℕ
  pub there : found ≡ Some text
  pub short : length text ≤ LONGEST_TRACE
  pub says : IsStream block text commands

-- it is there, and this is its first frame that is none, with its fault
pub record IsBadStream (block : ℕ) (found : Option (List ℕ)) (fault : StreamFault) : Type 0 where
  pub text : List ℕ
  pub there : found ≡ Some text
  pub short : length text ≤ LONGEST_TRACE
  pub broken : IsBroken block text fault

-- why bytes that were fed whole gave no commands; want of memory comes freely
abbrev pub IsFedFault : ℕ → List ℕ → FeedError → Type 0
IsFedFault block bytes (errors.Fault fault) = IsBroken block bytes fault
IsFedFault block bytes errors.NoMemory = Unit {0}

-- why a text that may be there is no stream
abbrev pub IsNoStream : ℕ → Option (List ℕ) → NoStream → Type 0
IsNoStream block found Absent = found ≡ None
IsNoStream block found TooLong = IsTooLong found
IsNoStream block found (Broken fault) = IsBadStream block found fault

-- where the bench tells its texts, the text of this name is a stream of these commands
abbrev pub ReadsStream : ℕ → BenchState → List ℕ → List Command → Type 0
ReadsStream block bench name commands = IsTrue bench.told → IsStreamText block (bench.text name) commands

-- where the bench tells its texts, the text of this name is no stream, for this cause
abbrev pub ReadsNoStream : ℕ → BenchState → List ℕ → NoStream → Type 0
ReadsNoStream block bench name cause = IsTrue bench.told → IsNoStream block (bench.text name) cause
