-- The text of a record: an output in front, and behind it entries that their print tells whole.
use Rattle.std.specs.Prelude.{◌≡◌, ℕ, ◌+◌, List, ◌∷◌, ◌++◌, length, Result, Ok, Err}
use Rattle.fdp_base.specs.declared.config.DriveConfig.{DriveConfig}
use Rattle.fdp_base.specs.declared.entry.Entry.{Entry}
use Rattle.fdp_prints.specs.Told.{AreTold, printed}
use Rattle.fdp_reader.specs.declared.record.Printed.{Printed}
use Rattle.fdp_reader.specs.declared.fault.RecordFault.{RecordFault}
use Rattle.fdp_reader.specs.declared.fault.RecordFault.TheVariants as faults
use Rattle.fdp_reader.specs.Form.{AreLines, IsForm, IsLine, text_of}

-- a text is a record: something of the form of an output for so many queues, and the print of entries
pub record IsRecord (c : DriveConfig) (text : List ℕ) (traces : ℕ) (output : List ℕ) (entries : List (ℕ × Entry)) : Type 0 where
  pub form : IsForm c traces output
  pub told : AreTold c entries
  pub text_is : text ≡ output ++ printed c.block entries

-- a text is some record
abbrev pub IsSome : DriveConfig → List ℕ → Type 0
IsSome c text = (traces : ℕ) × (output : List ℕ) × (entries : List (ℕ × Entry)) × IsRecord c text traces output entries

-- what was read of a text: how much of it is the output, of how many queues, and the entries behind it
pub record IsPrinted (c : DriveConfig) (text : List ℕ) (p : Printed) : Type 0 where
  pub output : List ℕ
  pub count : p.output ≡ length output
  pub record_is : IsRecord c text p.traces output p.entries.items

-- the first line after which no record goes on, from 1: the lines before it begin one, and with it they begin none; where it is not there
-- whole, the text is none
pub record IsFaultLine (c : DriveConfig) (text : List ℕ) (number : ℕ) : Type 0 where
  pub lines : List (List ℕ)
  pub rest : List ℕ
  pub whole : AreLines lines
  pub text_is : text ≡ text_of lines ++ rest
  pub place : number ≡ length lines + 1
  pub begins : (more : List ℕ) × IsSome c (text_of lines ++ more)
  pub ends : (line later more : List ℕ) → IsLine line → rest ≡ line ++ 10 ∷ later → IsSome c (text_of lines ++ line ++ 10 ∷ more) → ⊥
  pub none : IsSome c text → ⊥

-- why a text was not read
abbrev pub IsRecordCause : DriveConfig → List ℕ → RecordFault → Type 0
IsRecordCause c text (faults.Line number) = IsFaultLine c text number
IsRecordCause c text faults.NoMemory = Unit {0}

-- just this record was read, unless memory ran out
abbrev pub GivesRecord : ℕ → List ℕ → List (ℕ × Entry) → Result Printed RecordFault → Type 0
GivesRecord traces output entries (Ok p) = (p.traces ≡ traces) × (p.output ≡ length output) × (p.entries.items ≡ entries)
GivesRecord traces output entries (Err (faults.Line number)) = ⊥
GivesRecord traces output entries (Err faults.NoMemory) = Unit {0}

-- what a text comes to: a record and no other, or the first line after which no record goes on
abbrev pub IsOutcome : DriveConfig → List ℕ → Result Printed RecordFault → Type 0
IsOutcome c text (Ok p) = IsPrinted c text p × ((traces : ℕ) (output : List ℕ) (entries : List (ℕ × Entry)) → IsRecord c text traces output entries → GivesRecord traces output entries (Ok p))
IsOutcome c text (Err fault) = IsRecordCause c text fault
