-- The verdict on records.
use Rattle.std.specs.Prelude.{ℕ, List, [], ◌∷◌, ◌++◌, Option, codes, decimal}
use Rattle.fdp_audit.specs.declared.fault.AuditFault.{AuditFault}
use Rattle.fdp_audit.specs.declared.fault.RunFault.{RunFault}
use Rattle.fdp_audit.specs.declared.fault.RunFault.TheVariants as causes
use Rattle.fdp_finding.specs.declared.fault.Fault.{Fault}
use Rattle.fdp_finding.specs.declared.fault.Fault.TheVariants as faults
use Rattle.fdp_finding.specs.declared.no_record.NoRecord.TheVariants as records
use Rattle.fdp_finding.specs.Recorded.{number_among}

-- the line where a history of so many entries is right
abbrev pub yes_text : ℕ → List ℕ
yes_text count = codes "audit yes " ++ (decimal count ++ 10 ∷ [])

-- the fault of the record of a number as one of a run, which shows the number where several are given
abbrev pub of_cause : Option ℕ → ℕ → RunFault → Fault
of_cause shown number (causes.Line line) = faults.Record shown (records.Line line)
of_cause shown number (causes.Illegal at why) = faults.Audit shown at why
of_cause shown number (causes.Output line) = faults.Output shown line
of_cause shown number (causes.Lost at) = faults.Lost number at
of_cause shown number causes.NoMemory = faults.NoMemory

-- the fault of an audit of so many records as one of a run
abbrev pub of_audit : ℕ → AuditFault → Fault
of_audit count fault = of_cause (number_among count fault.number) fault.number fault.cause
