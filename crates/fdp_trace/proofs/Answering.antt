-- What is answered, from what the text comes to.
use Rattle.std.proofs.Common.{◌≡◌, ℕ, List, Result, Ok, Err, IfOk, IfErr, sym, ap, ◌∙◌}
use Rattle.std.specs.Global.{Vec}
use Rattle.fdp_base.specs.declared.command.Command.{Command}
use Rattle.fdp_trace.specs.declared.fault.FaultKind.{FaultKind}
use Rattle.fdp_trace.specs.declared.fault.FaultKind.TheVariants as kinds
use Rattle.fdp_trace.specs.declared.fault.TraceFault.{TraceFault}
use Rattle.fdp_trace.specs.declared.fault.TraceFault.TheVariants as faults
use Rattle.fdp_trace.specs.Grammar.{IsTraceOf, IsFaultOf}
use Rattle.fdp_trace.specs.Answer.{WantsMemory, IsCause, GivesCommands, GivesFault}
use Rattle.fdp_trace.specs.Reader.Trace.{trace_of, ReadsLines}
use Rattle.fdp_trace.proofs.Telling.{trace_is, fault_is}

abbrev pub Answered : Type 0
Answered = Result (Vec Command) TraceFault

-- what a text comes to is answered
abbrev pub Comes : List ℕ → Answered → Type 0
Comes text (Ok commands) = trace_of text ≡ Ok commands.items
Comes text (Err (faults.Line line kind)) = trace_of text ≡ Err (line, kind)
Comes text (Err faults.NoMemory) = WantsMemory text

pub fails_coming : (text : List ℕ) (commands : Vec Command) (fault : TraceFault) → ReadsLines text commands (Err fault) → Comes text (Err fault)
fails_coming text commands (faults.Line line kind) reads = reads
fails_coming text commands faults.NoMemory (command, says, needs) = (commands.items, command, says)

abbrev Found : Type 0
Found = Result (List Command) (ℕ × FaultKind)

one_outcome : (found : Found) (commands : List Command) (fault : ℕ × FaultKind) → found ≡ Ok commands → found ≡ Err fault → ⊥
one_outcome found commands fault ok err = absurd (cc)

same_commands : (found : Found) (a b : List Command) → found ≡ Ok a → found ≡ Ok b → a ≡ b
same_commands found a b ok also = cc

-- where a text comes to what is answered, its commands are those of the text
pub commands_answer : (text : List ℕ) (r : Answered) → Comes text r → IfOk r (λ commands. IsTraceOf text commands.items)
commands_answer text (Ok commands) reads = (trace_is text commands.items).1 reads
commands_answer text (Err fault) reads = tt

-- and its cause is that of the text
pub cause_answer : (text : List ℕ) (r : Answered) → Comes text r → IfErr r (IsCause text)
cause_answer text (Ok commands) reads = tt
cause_answer text (Err (faults.Line line kind)) reads = (fault_is text line kind).1 reads
cause_answer text (Err faults.NoMemory) wants = wants

-- the commands of a text are answered
pub read_answer : (text : List ℕ) (r : Answered) → Comes text r → (commands : List Command) → IsTraceOf text commands → GivesCommands commands r
read_answer text (Ok found) reads commands is =
    same_commands (trace_of text) found.items commands reads ((trace_is text commands).0 is)
read_answer text (Err (faults.Line line kind)) reads commands is =
    one_outcome (trace_of text) commands (line, kind) ((trace_is text commands).0 is) reads
read_answer text (Err faults.NoMemory) reads commands is = tt

abbrev fault_in : Found → ℕ × FaultKind
fault_in (Ok commands) = (0, kinds.Long)
fault_in (Err fault) = fault

-- the fault of a text is answered
pub told_answer : (text : List ℕ) (r : Answered) → Comes text r → (line : ℕ) (kind : FaultKind) → IsFaultOf text line kind → GivesFault line kind r
told_answer text (Ok found) reads line kind is =
    one_outcome (trace_of text) found.items (line, kind) reads ((fault_is text line kind).0 is)
told_answer text (Err (faults.Line at told)) reads line kind is =
    let two = sym reads ∙ (fault_is text line kind).0 is in (ap (λ r. (fault_in r).0) two, ap (λ r. (fault_in r).1) two)
told_answer text (Err faults.NoMemory) reads line kind is = tt
