-- What a text comes to, line by line.
use Rattle.std.specs.Prelude.{◌≡◌, ◌⊎◌, ◌<◌, ◌≤◌, vec_len, vec_capacity, ℕ, ◌+◌, Bool, ◌||◌, if◌then◌else◌, nat_lt, List, [], ◌∷◌, Option, Some, None, Result, Ok, Err}
use Rattle.std.specs.Global.{Vec}
use Rattle.std.specs.Str.Lines.{lines}
use Rattle.fdp_base.specs.declared.command.Command.{Command}
use Rattle.fdp_trace.specs.declared.fault.FaultKind.{FaultKind}
use Rattle.fdp_trace.specs.declared.fault.FaultKind.TheVariants as kinds
use Rattle.fdp_trace.specs.declared.fault.TraceFault.{TraceFault}
use Rattle.fdp_trace.specs.declared.fault.TraceFault.TheVariants as faults
use Rattle.fdp_trace.specs.Grammar.{SaysNext}
use Rattle.fdp_trace.specs.Reader.Commands.{listed}
use Rattle.fdp_trace.specs.Reader.Line.{line_of}
use Rattle.fdp_base.specs.CommandKinds.{blocks_read}

-- what a trace says so far: its lines, its commands and the blocks that they read
pub record Tally : Type 0 where
  pub lines : ℕ
  pub commands : ℕ
  pub blocks : ℕ

abbrev pub line_more : Tally → Tally
line_more t = record t { lines = t.lines + 1 }

abbrev pub command_more : Tally → Command → Tally
command_more t command = record { lines = t.lines + 1; commands = t.commands + 1; blocks = t.blocks + blocks_read command }

-- more than 8,192 commands, or more than 8,192 blocks over the reads
abbrev pub is_too_much : Tally → Bool
is_too_much t = nat_lt 8192 t.commands || nat_lt 8192 t.blocks

-- a command in front of those of the later lines
abbrev pub in_front : Command → Result (List Command) (ℕ × FaultKind) → Result (List Command) (ℕ × FaultKind)
in_front command (Ok others) = Ok (command ∷ others)
in_front command (Err fault) = Err fault

-- what a line comes to, with what the later lines come to without a command of its own or with one
abbrev pub after_line : Tally → Result (Option Command) FaultKind → Result (List Command) (ℕ × FaultKind) → (Command → Result (List Command) (ℕ × FaultKind)) → Result (List Command) (ℕ × FaultKind)
after_line t (Err kind) without beside = Err (t.lines + 1, kind)
after_line t (Ok None) without beside = without
after_line t (Ok (Some command)) without beside =
    if is_too_much (command_more t command) then Err (t.lines + 1, kinds.Long) else in_front command (beside command)

-- the commands of the lines that follow, or the number and the fault of the first bad line
unfoldable pub trace_from : Tally → List (List ℕ) → Result (List Command) (ℕ × FaultKind)
trace_from t [] = Ok []
trace_from t (line ∷ lines) = after_line t (line_of line) (trace_from (line_more t) lines) (λ command. trace_from (command_more t command) lines)

-- the commands of a text, or the number of its first bad line, from 1, and its fault
abbrev pub trace_of : List ℕ → Result (List Command) (ℕ × FaultKind)
trace_of text = trace_from (record { lines = 0; commands = 0; blocks = 0 }) (lines text)

-- memory is wanted behind these commands: a line says one more, which has a list, or for which the list of commands has no room
abbrev pub NeedsMemory : List ℕ → Vec Command → Type 0
NeedsMemory text commands = (command : Command) × SaysNext text commands.items command × ((0 < listed command) ⊎ (vec_capacity commands ≤ vec_len commands))

-- the commands of a text were read, or this is its first fault, unless memory ran out
abbrev pub ReadsLines : List ℕ → Vec Command → Result (Unit {0}) TraceFault → Type 0
ReadsLines text commands (Ok done) = trace_of text ≡ Ok commands.items
ReadsLines text commands (Err (faults.Line line kind)) = trace_of text ≡ Err (line, kind)
ReadsLines text commands (Err faults.NoMemory) = NeedsMemory text commands
