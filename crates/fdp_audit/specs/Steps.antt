-- What the steps of an audit come to: the contracts of private functions cite it.
use Rattle.std.specs.Prelude.{◌≡◌, ◌≢◌, ◌⊎◌, ℕ, ◌+◌, ◌≤◌, List, ◌∷◌, length, Result, Ok, Err}
use Rattle.fdp_base.specs.declared.entry.Entry.{Entry}
use Rattle.fdp_base.specs.declared.entry.Entry.TheVariants.{Reopened}
use Rattle.fdp_output.specs.RunOutput.{output_of}
use Rattle.fdp_plain.specs.declared.refused.Refused.{Refused}
use Rattle.fdp_plain.specs.declared.refused.Refused.TheVariants as refusals
use Rattle.fdp_plain.specs.Refusing.{IsNoStep}
use Rattle.fdp_plain.specs.Run.{Run, found_of}
use Rattle.fdp_reader.specs.declared.fault.RecordFault.{RecordFault}
use Rattle.fdp_reader.specs.declared.fault.RecordFault.TheVariants as records
use Rattle.fdp_audit.specs.declared.fault.AuditFault.{AuditFault}
use Rattle.fdp_audit.specs.declared.fault.RunFault.{RunFault}
use Rattle.fdp_audit.specs.declared.fault.RunFault.TheVariants as faults
use Rattle.fdp_audit.specs.Audit.{Follow, IsCauseBehind, IsCauseFrom, IsCauseNext, IsFirstOther, IsIllegal, IsNext, IsNoOpening, IsRecordFrom, IsWant, behind, first_position}

-- the fault of a reader, and the refusal of a plain drive, as ones of an audit
abbrev pub of_record : RecordFault → RunFault
of_record (records.Line line) = faults.Line line
of_record records.NoMemory = faults.NoMemory

abbrev pub of_refusal : Refused → RunFault
of_refusal (refusals.Illegal at why) = faults.Illegal at why
of_refusal refusals.NoMemory = faults.NoMemory

-- why entries were not taken
abbrev pub IsIllegalIn : Run → List (ℕ × Entry) → RunFault → Type 0
IsIllegalIn start entries (faults.Line line) = ⊥
IsIllegalIn start entries (faults.Illegal at why) = IsIllegal start entries at why
IsIllegalIn start entries (faults.Output line) = ⊥
IsIllegalIn start entries (faults.Lost at) = ⊥
IsIllegalIn start entries faults.NoMemory = Unit {0}

-- why an entry was not taken: it is no step; or memory was wanting
abbrev pub IsRefusedStep : Run → Entry → RunFault → Type 0
IsRefusedStep run e (faults.Line line) = ⊥
IsRefusedStep run e (faults.Illegal at why) = IsNoStep run e at why
IsRefusedStep run e (faults.Output line) = ⊥
IsRefusedStep run e (faults.Lost at) = ⊥
IsRefusedStep run e faults.NoMemory = Unit {0}

-- why the entry that is next was not taken: it has another position than the one due, or is no step; or memory was wanting
abbrev pub IsRefusedNext : Run → ℕ → ℕ → Entry → RunFault → Type 0
IsRefusedNext run due position e (faults.Line line) = ⊥
IsRefusedNext run due position e (faults.Illegal at why) = ((position ≢ due) × (at ≡ due) × (why ≡ 0)) ⊎ ((position ≡ due) × IsNoStep run e at why)
IsRefusedNext run due position e (faults.Output line) = ⊥
IsRefusedNext run due position e (faults.Lost at) = ⊥
IsRefusedNext run due position e faults.NoMemory = Unit {0}

-- why an output was refused
abbrev pub IsOtherOutput : Run → ℕ → List ℕ → RunFault → Type 0
IsOtherOutput run traces output (faults.Line line) = ⊥
IsOtherOutput run traces output (faults.Illegal at why) = ⊥
IsOtherOutput run traces output (faults.Output line) = IsFirstOther output (output_of run.config (found_of run) traces run.entries) line
IsOtherOutput run traces output (faults.Lost at) = ⊥
IsOtherOutput run traces output faults.NoMemory = Unit {0}

-- a run that begins here has these entries, of which the text is the record; no other entries have it
pub record IsRecordOfRun (start : Run) (text : List ℕ) (run : Run) : Type 0 where
  pub run_is : run ≡ behind start run.entries
  pub record_is : IsRecordFrom start text run.entries
  pub one : (es : List Entry) → IsRecordFrom start text es → run.entries ≡ es

-- what a text comes to as the record of a run that begins here
abbrev pub IsVerdict : Run → List ℕ → Run → Result (Unit {0}) RunFault → Type 0
IsVerdict start text run (Ok done) = IsRecordOfRun start text run
IsVerdict start text run (Err fault) = IsCauseFrom start text fault × ((es : List Entry) → IsRecordFrom start text es → IsWant fault)

-- ---- the next run

-- entries begin with an opening behind so many of a run
pub record BeginBehind (old : Run) (entries : List (ℕ × Entry)) (kept : ℕ) : Type 0 where
  pub low : kept ≤ length old.entries
  pub more : List (ℕ × Entry)
  pub entries_are : entries ≡ (first_position old + kept, Reopened) ∷ more

-- why entries begin behind none
abbrev pub BeginNowhere : Run → List (ℕ × Entry) → RunFault → Type 0
BeginNowhere old entries (faults.Line line) = ⊥
BeginNowhere old entries (faults.Illegal at why) = IsNoOpening (first_position old) old.entries entries at why
BeginNowhere old entries (faults.Output line) = ⊥
BeginNowhere old entries (faults.Lost at) = ⊥
BeginNowhere old entries faults.NoMemory = ⊥

-- the run went on, and in no other way
pub record GoesOn (old : Run) (text : List ℕ) (next : Run) : Type 0 where
  pub next_is : IsNext old text next
  pub one : (other : Run) → IsNext old text other → next ≡ other

-- what a text comes to as the record of the run behind another
abbrev pub IsNextVerdict : Run → List ℕ → Run → Result (Unit {0}) RunFault → Type 0
IsNextVerdict old text next (Ok done) = GoesOn old text next
IsNextVerdict old text next (Err fault) = IsCauseNext old text fault × ((other : Run) → IsNext old text other → IsWant fault)

-- the runs went on, and in no other way
pub record GoOn (old : Run) (texts : List (List ℕ)) (last : Run) : Type 0 where
  pub follow : Follow old texts last
  pub one : (other : Run) → Follow old texts other → last ≡ other

-- what texts come to as the records of the runs behind another, whose record has this number
abbrev pub IsOutcomeBehind : Run → List (List ℕ) → ℕ → Run → Result (Unit {0}) AuditFault → Type 0
IsOutcomeBehind old texts number last (Ok done) = GoOn old texts last
IsOutcomeBehind old texts number last (Err fault) = IsCauseBehind old texts number fault × ((other : Run) → Follow old texts other → IsWant fault.cause)
