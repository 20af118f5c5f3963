-- The status of a run, what the sink then holds, and what becomes of its flash.
use Rattle.std.specs.Prelude.{String, ◌≡◌, ◌⊎◌, ℕ, Err, List, length}
use Rattle.std.specs.declared.alloc.Global.{Global}
use Rattle.fdp_base.specs.declared.command.Command.{Command}
use Rattle.fdp_base.specs.declared.config.DriveConfig.{DriveConfig}
use Rattle.fdp_base.specs.declared.entry.Entry.{Entry}
use Rattle.fdp_base.specs.Placement.{geometry_of}
use Rattle.fdp_drive.specs.fdp_book.Book.{BookSeen}
use Rattle.fdp_drive.specs.fdp_core.Loading.{IsNotLoaded}
use Rattle.fdp_finding.specs.declared.asked.Form.{Form}
use Rattle.fdp_finding.specs.declared.asked.Form.TheVariants as forms
use Rattle.fdp_finding.specs.declared.fault.Fault.{Fault}
use Rattle.fdp_finding.specs.declared.fault.Fault.TheVariants as faults
use Rattle.fdp_finding.specs.Wanted.{CountsSource, Finds, Lacks, Sought, audited, session}
use Rattle.fdp_flash.specs.FlashState.{FlashState}
use Rattle.fdp_io.specs.declared.bench.NotTaken.TheVariants as refusals
use Rattle.fdp_io.specs.Bench.{BenchState, HandsOut, KeepsFlash, PutsBack, SameFlashes}
use Rattle.fdp_io.specs.Sink.{Holds, HoldsFront, SinkState}
use Rattle.fdp_make.specs.Summary.{summary_text, unrefuted_blocks}
use Rattle.fdp_output.specs.HistoryText.{record_of}
use Rattle.fdp_output.specs.RunOutput.{output_of}
use Rattle.fdp_printing.specs.Printing.{HoldsSome}
use Rattle.fdp_drive.specs.fdp_recovery.declared.opened.OpenFault.{OpenFault}
use Rattle.fdp_rules.specs.History.{Found}
use Rattle.fdp_drive.specs.fdp_workers.declared.ends.End.{End}
use Rattle.fdp_drive.specs.fdp_workers.declared.ends.End.TheVariants as ends
use Rattle.fdp_audit.specs.declared.fault.AuditFault.{AuditFault}
use Rattle.fdp_audit.specs.Audit.{GivesYes, IsAuditCause, IsAudited}
use Rattle.fdp_cli.specs.Loading.{of_opening}
use Rattle.fdp_cli.specs.Refusing.{Refuses}
use Rattle.fdp_cli.specs.Session.{IsCut, IsRecordOf}
use Rattle.fdp_cli.specs.Verdict.{of_audit, yes_text}

-- ---- on a flash

-- the text of a run: its output, for a record with the history behind it, for a generated load its summary
abbrev pub text_of : Form → DriveConfig → Found → ℕ → List Entry → List ℕ
text_of forms.Run c f traces es = output_of c f traces es
text_of forms.Record c f traces es = record_of c f traces es
text_of forms.Stream c f traces es = output_of c f traces es
text_of forms.StreamRecord c f traces es = record_of c f traces es
text_of (forms.Make number) c f traces es = summary_text number.now c.block es (unrefuted_blocks c.block es)

-- the text of a run over a history
abbrev pub text_in : Form → ℕ → BookSeen → List ℕ
text_in form traces b = text_of form b.config b.found traces b.entries

-- the sink received the whole text (0), or a prefix of it where a write failed (8) or memory was wanting (7)
abbrev pub PrintsText : List ℕ → SinkState → SinkState → ℕ → Type 0
PrintsText text old new status =
    ((status ≡ 0) × Holds old new text)
    ⊎ ((status ≡ 8) × HoldsFront old new text)
    ⊎ ((status ≡ 7) × HoldsSome old new text)

-- what is shown of a session: its text where it ended whole; nothing where memory was wanting (7); or the traces need more steps than a drive
-- may make, and the line of that fault was printed (9)
abbrev pub Shows : BookSeen → End → Form → ℕ → SinkState → SinkState → ℕ → Type 0
Shows b ends.Whole form traces old new status = PrintsText (text_in form traces b) old new status
Shows b ends.NoMemory form traces old new status = (status ≡ 7) × (new ≡ old)
Shows b ends.Turns form traces old new status = Refuses old new faults.Turns status

-- one drive of the configuration served each trace whole on its flash, and the sink shows this of the text of its history, whose sums go on
-- from those of the image
abbrev pub ServesAndPrints : {F : Type 0} → (F → FlashState) → Form → DriveConfig → List (List Command) → F → F → SinkState → SinkState → ℕ → Type 0
ServesAndPrints state form c traces handed given old new status =
    (f : Found) × (es : List Entry) × IsRecordOf state c traces handed given f es × PrintsText (text_of form c f (length traces) es) old new status

-- a drive was not opened, for this cause, and the line of that fault was printed
pub record RefusesImage {F : Type 0} (state : F → FlashState) (c : DriveConfig) (handed given : F) (old new : SinkState) (status : ℕ) : Type 0 where
  pub cause : OpenFault
  pub shown : IsNotLoaded state c handed (record { flash = given; cause = cause })
  pub refused : Refuses old new (of_opening cause) status

-- The traces were served and the text printed, or a prefix of it (0, 8 or 7); or memory was wanting before the text was due, and nothing was printed
-- (7); or the traces need more steps than a drive may make, and the line of that fault was printed (9); or the drive was not opened, and the line of its
-- cause was printed (4, 5 or 7). The flash is given back.
abbrev pub EndsRun : {F : Type 0} → (F → FlashState) → Form → DriveConfig → List (List Command) → F → F → SinkState → SinkState → ℕ → Type 0
EndsRun state form c traces handed given old new status =
    ServesAndPrints state form c traces handed given old new status
    ⊎ ((status ≡ 7) × (new ≡ old) × IsCut state c traces ends.NoMemory handed given)
    ⊎ (Refuses old new faults.Turns status × IsCut state c traces ends.Turns handed given)
    ⊎ RefusesImage state c handed given old new status

-- ---- on an image

-- the flash of the image was taken, this was done with it, and it was given back: from then on it lies under its name as it is
pub record RunsOn {F : Type 0} (state : F → FlashState) (bench bench' : BenchState) (c : DriveConfig) (image : List ℕ) (Ends : F → F → SinkState → SinkState → ℕ → Type 0) (old new : SinkState) (status : ℕ) : Type 0 where
  pub between : BenchState
  pub handed : F
  pub given : F
  pub taken : HandsOut bench between image (geometry_of c) (state handed)
  pub ran : Ends handed given old new status
  pub back : PutsBack between bench' image (state given)

-- so it was; or a call of the bench failed, which was counted, and the line of that fault was printed; or memory was wanting. Then the
-- flash stays where it was
abbrev pub OnImage : {F : Type 0} → (F → FlashState) → BenchState → BenchState → DriveConfig → List ℕ → (F → F → SinkState → SinkState → ℕ → Type 0) → SinkState → SinkState → ℕ → Type 0
OnImage state bench bench' c image Ends old new status =
    RunsOn state bench bench' c image Ends old new status
    ⊎ (KeepsFlash bench bench' refusals.Failed × Refuses old new faults.Flash status)
    ⊎ (KeepsFlash bench bench' refusals.NoMemory × (status ≡ 7) × (new ≡ old))

-- ---- over records

-- that a history of so many entries is right was printed (0); or a write of the sink failed (8)
abbrev pub SaysYes : ℕ → SinkState → SinkState → ℕ → Type 0
SaysYes count old new status = ((status ≡ 0) × Holds old new (yes_text count)) ⊎ ((status ≡ 8) × HoldsFront old new (yes_text count))

-- texts are not such records, and the line of the first cause was printed (13, 14 or 8); or memory was wanting (7), and only then may they be
pub record SaysNo (c : DriveConfig) (texts : List (List ℕ)) (old new : SinkState) (status : ℕ) : Type 0 where
  pub fault : AuditFault
  pub cause : IsAuditCause c texts fault
  pub none : (count : ℕ) → IsAudited c texts count → GivesYes count (Err fault)
  pub refused : Refuses old new (of_audit (length texts) fault) status

-- texts are the records of runs that followed one another on one image, the first of them on a new one, of a drive of this configuration, and the number of entries of
-- the history behind them was printed; or they are not
abbrev pub Audits : DriveConfig → List (List ℕ) → SinkState → SinkState → ℕ → Type 0
Audits c texts old new status = ((count : ℕ) × IsAudited c texts count × SaysYes count old new status) ⊎ SaysNo c texts old new status

-- ---- the whole run

-- what is done with what was found: the traces of a session are served on its image, and shown in its form; records are audited, and nothing else is touched
abbrev pub Does : {F : Type 0} → (F → FlashState) → BenchState → BenchState → Sought → SinkState → SinkState → ℕ → Type 0
Does state bench bench' (session form c image traces) old new status = OnImage state bench bench' c image (EndsRun state form c traces) old new status
Does state bench bench' (audited c texts) old new status = SameFlashes bench bench' × (bench'.faults ≡ bench.faults) × Audits c texts old new status

-- what the words ask for was found, and that was done
abbrev pub FindsAndDoes : {F : Type 0} → (F → FlashState) → BenchState → BenchState → List (String Global) → SinkState → SinkState → ℕ → Type 0
FindsAndDoes state bench bench' words old new status = (sought : Sought) × Finds bench words sought × Does state bench bench' sought old new status

-- a fault came before a flash was taken: the bench counts a call that failed where that is the fault, and nothing else
pub record RefusesRun (bench bench' : BenchState) (words : List (String Global)) (old new : SinkState) (status : ℕ) : Type 0 where
  pub fault : Fault
  pub counts : CountsSource bench.faults bench'.faults fault
  pub flashes : SameFlashes bench bench'
  pub lacks : Lacks bench bench' words fault
  pub refused : Refuses old new fault status

-- what was asked for was found and done; or there was a fault
abbrev pub Answers : {F : Type 0} → (F → FlashState) → BenchState → BenchState → List (String Global) → SinkState → SinkState → ℕ → Type 0
Answers state bench bench' words old new status = FindsAndDoes state bench bench' words old new status ⊎ RefusesRun bench bench' words old new status
