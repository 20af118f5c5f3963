-- What is answered where a text is read.
use Rattle.std.specs.Prelude.{◌≡◌, ℕ, List, Result, Ok, Err}
use Rattle.std.specs.Global.{Vec}
use Rattle.fdp_base.specs.declared.command.Command.{Command}
use Rattle.fdp_trace.specs.declared.fault.FaultKind.{FaultKind}
use Rattle.fdp_trace.specs.declared.fault.TraceFault.{TraceFault}
use Rattle.fdp_trace.specs.declared.fault.TraceFault.TheVariants as faults
use Rattle.fdp_trace.specs.Grammar.{IsFaultOf, SaysNext}

-- memory is wanted for a line that says a command alone, behind lines that say commands
abbrev pub WantsMemory : List ℕ → Type 0
WantsMemory text = (before : List Command) × (command : Command) × SaysNext text before command

-- why a text is not read: this is its first bad line with its fault, or memory ran out at a line that says a command
abbrev pub IsCause : List ℕ → TraceFault → Type 0
IsCause text (faults.Line line kind) = IsFaultOf text line kind
IsCause text faults.NoMemory = WantsMemory text

-- these commands, unless memory ran out
abbrev pub GivesCommands : List Command → Result (Vec Command) TraceFault → Type 0
GivesCommands commands (Ok found) = found.items ≡ commands
GivesCommands commands (Err (faults.Line line kind)) = ⊥
GivesCommands commands (Err faults.NoMemory) = Unit {0}

-- this line and this fault, unless memory ran out
abbrev pub GivesFault : ℕ → FaultKind → Result (Vec Command) TraceFault → Type 0
GivesFault line kind (Ok found) = ⊥
GivesFault line kind (Err (faults.Line at told)) = (at ≡ line) × (told ≡ kind)
GivesFault line kind (Err faults.NoMemory) = Unit {0}
