-- What is found for an audit and for a generated load is what the words ask for.
use Rattle.std.proofs.Common.{◌≡◌, ◌∙◌, List, Result, Ok, Err, IfErr, IfOk, ap, inr, subst, sym}
use Rattle.std.specs.Prelude.{String, MatchResult, Some, ℕ}
use Rattle.std.specs.declared.alloc.Global.{Global}
use Rattle.fdp_base.specs.declared.config.DriveConfig.{DriveConfig}
use Rattle.fdp_base.specs.Counts.{Rose}
use Rattle.fdp_io.specs.Bench.{BenchState, SameTexts}
use Rattle.fdp_finding.specs.declared.asked.Form.{Form}
use Rattle.fdp_finding.specs.declared.asked.LoadAsked.{LoadAsked}
use Rattle.fdp_finding.specs.declared.fault.Fault.{Fault}
use Rattle.fdp_finding.specs.declared.fault.Fault.TheVariants as faults
use Rattle.fdp_finding.specs.declared.reading.Task.{Task}
use Rattle.fdp_finding.specs.declared.reading.Task.TheVariants as tasks
use Rattle.fdp_finding.specs.Asked.{AuditNames, asked_of, auditing, making}
use Rattle.fdp_finding.specs.CommandLine.{as_load}
use Rattle.fdp_finding.specs.Configured.{ReadsConfig}
use Rattle.fdp_finding.specs.Task.{AuditsIf, CanBegin, IsLoad, ServesIf, sought_of}
use Rattle.fdp_finding.specs.Wanted.{AuditLacks, ConfigLacks, Finds, HasRecords, Lacks, RecordsLack, commands_of, session, texts_in}
use Rattle.fdp_finding.proofs.RecordTexts.{first_back}

-- what the configuration lacks is what the audit lacks
pub config_audit : (old new : BenchState) (names : AuditNames) (fault : Fault) → ConfigLacks old new names.config fault → AuditLacks old new names fault
config_audit old new names faults.Usage lacks = absurd lacks
config_audit old new names (faults.Config cause) lacks = lacks
config_audit old new names (faults.NoQueue trace) lacks = absurd lacks
config_audit old new names (faults.Trace trace cause) lacks = absurd lacks
config_audit old new names (faults.Stream stream cause) lacks = absurd lacks
config_audit old new names (faults.Image cause) lacks = absurd lacks
config_audit old new names faults.Flash lacks = absurd lacks
config_audit old new names faults.Source lacks = lacks
config_audit old new names faults.NoMemory lacks = tt
config_audit old new names faults.Turns lacks = absurd lacks
config_audit old new names (faults.Record number cause) lacks = absurd lacks
config_audit old new names (faults.Audit number at why) lacks = absurd lacks
config_audit old new names (faults.Output number line) lacks = absurd lacks
config_audit old new names (faults.Lost number at) lacks = absurd lacks

-- what the records lack is what the audit lacks
pub records_audit : (old mid new : BenchState) (names : AuditNames) (c : DriveConfig) (fault : Fault) → SameTexts old mid → mid.faults ≡ old.faults → ReadsConfig old names.config c → RecordsLack mid new names.texts fault → AuditLacks old new names fault
records_audit old mid new names c faults.Usage same still read lacks = absurd lacks
records_audit old mid new names c (faults.Config cause) same still read lacks = absurd lacks
records_audit old mid new names c (faults.NoQueue trace) same still read lacks = absurd lacks
records_audit old mid new names c (faults.Trace trace cause) same still read lacks = absurd lacks
records_audit old mid new names c (faults.Stream stream cause) same still read lacks = absurd lacks
records_audit old mid new names c (faults.Image cause) same still read lacks = absurd lacks
records_audit old mid new names c faults.Flash same still read lacks = absurd lacks
records_audit old mid new names c faults.Source same still read lacks = subst (λ n. Rose n new.faults) still lacks
records_audit old mid new names c faults.NoMemory same still read lacks = tt
records_audit old mid new names c faults.Turns same still read lacks = absurd lacks
records_audit old mid new names c (faults.Record number cause) same still read lacks = record { config = c; configured = read; first = first_back old mid names.texts number cause same lacks }
records_audit old mid new names c (faults.Audit number at why) same still read lacks = absurd lacks
records_audit old mid new names c (faults.Output number line) same still read lacks = absurd lacks
records_audit old mid new names c (faults.Lost number at) same still read lacks = absurd lacks

-- what the audit lacks is what the run lacks, where the words ask for one
audit_lacks : (old new : BenchState) (words : List (String Global)) (names : AuditNames) (fault : Fault) → asked_of words ≡ Some (auditing names) → AuditLacks old new names fault → Lacks old new words fault
audit_lacks old new words names faults.Usage asked lacks = absurd lacks
audit_lacks old new words names (faults.Config cause) asked lacks = inr (record { names = names; asked = asked; lacks = lacks })
audit_lacks old new words names (faults.NoQueue trace) asked lacks = absurd lacks
audit_lacks old new words names (faults.Trace trace cause) asked lacks = absurd lacks
audit_lacks old new words names (faults.Stream stream cause) asked lacks = absurd lacks
audit_lacks old new words names (faults.Image cause) asked lacks = absurd lacks
audit_lacks old new words names faults.Flash asked lacks = absurd lacks
audit_lacks old new words names faults.Source asked lacks = inr (record { names = names; asked = asked; lacks = lacks })
audit_lacks old new words names faults.NoMemory asked lacks = tt
audit_lacks old new words names faults.Turns asked lacks = absurd lacks
audit_lacks old new words names (faults.Record number cause) asked lacks = record { names = names; asked = asked; lacks = lacks }
audit_lacks old new words names (faults.Audit number at why) asked lacks = absurd lacks
audit_lacks old new words names (faults.Output number line) asked lacks = absurd lacks
audit_lacks old new words names (faults.Lost number at) asked lacks = absurd lacks

-- what was found for an audit is what the words ask for
pub audit_answers : (old new : BenchState) (words : List (String Global)) (names : AuditNames) (r : Result Task Fault) → asked_of words ≡ Some (auditing names)
    → MatchResult r (AuditsIf (λ found. HasRecords old names found.config (texts_in found.texts.items))) (AuditLacks old new names)
    → MatchResult r (λ task. Finds old words (sought_of task)) (Lacks old new words)
audit_answers old new words names (Ok (tasks.Serve found)) asked h = absurd h
audit_answers old new words names (Ok (tasks.Audit found)) asked h = record { names = names; asked = asked; found = h }
audit_answers old new words names (Err fault) asked h = audit_lacks old new words names fault asked h

-- the generated load that was made is what the words ask for
pub load_answers : (old new : BenchState) (words : List (String Global)) (load : LoadAsked) (r : Result Task Fault) → asked_of words ≡ Some (making (as_load load))
    → IfOk r (ServesIf (IsLoad load)) → IfOk r CanBegin → IfErr r (λ fault. fault ≡ faults.NoMemory)
    → MatchResult r (λ task. Finds old words (sought_of task)) (Lacks old new words)
load_answers old new words load (Ok (tasks.Serve found)) asked is begins none =
    subst (λ (form : Form). Finds old words (session form found.config found.image.now (commands_of found.traces.items))) (sym is.form)
    (record { asked = asked ∙ ap (λ (image : List ℕ). Some (making (record { number = load.number.now; image = image }))) (ap (λ b. b.now) (sym is.image)); config = is.config; valid = begins.valid; commands = is.traces })
load_answers old new words load (Ok (tasks.Audit found)) asked is begins none = absurd is
load_answers old new words load (Err fault) asked is begins none = subst (Lacks old new words) (sym none) tt
