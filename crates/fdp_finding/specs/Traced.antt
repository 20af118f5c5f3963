-- The commands of a trace that a run finds, or why it finds none.
use Rattle.std.specs.Prelude.{◌≡◌, ℕ, ◌<◌, ◌≤◌, All, IsTrue, List, length, Option, Some, None}
use Rattle.fdp_base.specs.declared.command.Command.{Command}
use Rattle.fdp_base.specs.declared.config.DriveConfig.{DriveConfig}
use Rattle.fdp_base.specs.declared.limits.TheConstants.{LONGEST_TRACE, MOST_TRACE_COMMANDS}
use Rattle.fdp_base.specs.CommandKinds.{IsWellFormed}
use Rattle.fdp_io.specs.Bench.{BenchState}
use Rattle.fdp_trace.specs.declared.fault.FaultKind.{FaultKind}
use Rattle.fdp_trace.specs.Grammar.{IsFaultOf, IsTraceOf}
use Rattle.fdp_finding.specs.declared.no_trace.NoTrace.{NoTrace}
use Rattle.fdp_finding.specs.declared.no_trace.NoTrace.TheVariants.{Absent, Line, TooLong}

-- a text that may be there is there, of at most as many bytes as a trace may have, and says these commands
pub record IsTraceText (found : Option (List ℕ)) (commands : List Command) : Type 0 where
  pub text : List ℕ
  pub there : found ≡ Some text
  pub short : length text ≤ LONGEST_TRACE
  pub says : IsTraceOf text commands

-- it is there, and longer
pub record IsTooLong (found : Option (List ℕ)) : Type 0 where
  pub text : List ℕ
  pub there : found ≡ Some text
  pub long : LONGEST_TRACE < length text

-- it is there, and this is its first bad line, with its fault
pub record IsBadTrace (found : Option (List ℕ)) (line : ℕ) (kind : FaultKind) : Type 0 where
  pub text : List ℕ
  pub there : found ≡ Some text
  pub short : length text ≤ LONGEST_TRACE
  pub first : IsFaultOf text line kind

-- why a text that may be there is that of no trace
abbrev pub IsNoTrace : Option (List ℕ) → NoTrace → Type 0
IsNoTrace found Absent = found ≡ None
IsNoTrace found TooLong = IsTooLong found
IsNoTrace found (Line line kind) = IsBadTrace found line kind

-- where the bench tells its texts, the text of this name is that of these commands
abbrev pub ReadsTrace : BenchState → List ℕ → List Command → Type 0
ReadsTrace bench name commands = IsTrue bench.told → IsTraceText (bench.text name) commands

-- where the bench tells its texts, the text of this name is that of no trace, for this cause
abbrev pub ReadsNoTrace : BenchState → List ℕ → NoTrace → Type 0
ReadsNoTrace bench name cause = IsTrue bench.told → IsNoTrace (bench.text name) cause

-- a trace that a drive can serve: each command is well formed, and they are no more than a trace may have
pub record IsServable (c : DriveConfig) (trace : List Command) : Type 0 where
  pub formed : All (IsWellFormed c) trace
  pub few : length trace ≤ MOST_TRACE_COMMANDS
