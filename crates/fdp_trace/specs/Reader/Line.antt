-- The command of a line, none where it is skipped, or its first fault.
use Rattle.std.specs.Prelude.{◌≡◌, ◌<◌, ℕ, not, if◌then◌else◌, nat_lt, List, length, Option, Some, None, Result, Ok, Err}
use Rattle.std.specs.Str.{is_utf8}
use Rattle.fdp_base.specs.declared.command.Command.{Command}
use Rattle.fdp_base.specs.declared.limits.TheConstants.{LONGEST_LINE}
use Rattle.fdp_trace.specs.declared.fault.FaultKind.{FaultKind}
use Rattle.fdp_trace.specs.declared.fault.FaultKind.TheVariants as kinds
use Rattle.fdp_trace.specs.declared.fault.TraceFault.{TraceFault}
use Rattle.fdp_trace.specs.declared.fault.TraceFault.TheVariants as faults
use Rattle.fdp_trace.specs.Words.{words_of}
use Rattle.fdp_trace.specs.Grammar.{is_skipped}
use Rattle.fdp_trace.specs.Reader.Reading.{◌>>=◌}
use Rattle.fdp_trace.specs.Reader.Commands.{command_of, listed}

-- the command of a line, none where it is skipped, or the line's first fault
unfoldable pub line_of : List ℕ → Result (Option Command) FaultKind
line_of line =
    if is_skipped line then Ok None
    else (if nat_lt LONGEST_LINE (length line) then Err kinds.Long
    else (if not (is_utf8 line) then Err kinds.Utf8
    else (command_of (words_of line) >>= λ command. Ok (Some command))))

-- the items of a line's command
abbrev pub listed_in : Option Command → ℕ
listed_in None = 0
listed_in (Some command) = listed command

-- the command of a line, or its number and its fault; memory is wanted only for the list of a command
abbrev pub ReadsLine : ℕ → Result (Option Command) FaultKind → Result (Option Command) TraceFault → Type 0
ReadsLine number line (Ok command) = line ≡ Ok command
ReadsLine number line (Err (faults.Line at kind)) = (at ≡ number) × (line ≡ Err kind)
ReadsLine number line (Err faults.NoMemory) = (command : Command) × (line ≡ Ok (Some command)) × (0 < listed command)
