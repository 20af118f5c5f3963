-- What an audit says of texts.
use Rattle.std.specs.Prelude.{◌≡◌, ◌≢◌, ◌⊎◌, ℕ, ◌+◌, ◌<◌, Bool, true, false, IsFalse, IsTrue, ◌&&◌, List, [], ◌∷◌, ◌++◌, All, length, Result, Ok, Err}
use Rattle.std.specs.Option.{option_map_or}
use Rattle.fdp_base.specs.declared.config.DriveConfig.{DriveConfig}
use Rattle.fdp_base.specs.declared.entry.Entry.{Entry}
use Rattle.fdp_base.specs.declared.entry.Entry.TheVariants.{Reopened}
use Rattle.fdp_base.specs.declared.entry.Host.{Host}
use Rattle.fdp_base.specs.declared.status.TheConstants.Status.{SUCCESS}
use Rattle.fdp_base.specs.CommandKinds.{is_saved}
use Rattle.fdp_base.specs.EntryKinds.{host_of}
use Rattle.fdp_base.specs.Geometry.{IsWithin}
use Rattle.fdp_output.specs.HistoryText.{record_of}
use Rattle.fdp_output.specs.RunOutput.{output_of}
use Rattle.fdp_plain.specs.Refusing.{IsNoStep}
use Rattle.fdp_plain_judge.specs.declared.rule.Rule.TheVariants as rules
use Rattle.fdp_plain_judge.specs.Rules.{number_of}
use Rattle.fdp_plain.specs.Run.{Run, found_of, next_position}
use Rattle.fdp_prints.specs.Told.{IsTold}
use Rattle.fdp_reader.specs.Lines.{SameLines}
use Rattle.fdp_reader.specs.Record.{IsFaultLine, IsRecord}
use Rattle.fdp_rules.specs.Change.{is_status}
use Rattle.fdp_rules.specs.Legal.{IsLegal}
use Rattle.fdp_audit.specs.declared.fault.AuditFault.{AuditFault}
use Rattle.fdp_audit.specs.declared.fault.RunFault.{RunFault}
use Rattle.fdp_audit.specs.declared.fault.RunFault.TheVariants as faults

-- a run that begins here, behind these entries of its own
abbrev pub behind : Run → List Entry → Run
behind start es = record start { entries = es }

-- a text is the record of a legal history of a run that begins here, with these entries, and for some traces, one to as many as there are queues
pub record IsRecordFrom (start : Run) (text : List ℕ) (es : List Entry) : Type 0 where
  pub traces : ℕ
  pub queues : IsWithin 1 start.config.queues traces
  pub told : All (IsTold start.config) es
  pub legal : IsLegal true start.config (found_of start) es
  pub text_is : text ≡ record_of start.config (found_of start) traces es

-- the first run of a drive on a new image
abbrev pub first_run : DriveConfig → Run
first_run c = record { config = c; earlier = []; entries = [] }

-- a run has these entries, and its text is the record of it, on a new image of a drive of this configuration
pub record IsFirst (c : DriveConfig) (text : List ℕ) (first : Run) : Type 0 where
  pub first_is : first ≡ behind (first_run c) first.entries
  pub record_is : IsRecordFrom (first_run c) text first.entries

-- a change was completed: a command that is saved succeeded
abbrev pub is_completed_change : Entry → Bool
is_completed_change e = option_map_or (λ (h : Host). is_saved h.command && is_status h.reply.status SUCCESS) (host_of e) false

abbrev pub HaveNoCompletedChange : List Entry → Type 0
HaveNoCompletedChange es = All (λ e. IsFalse (is_completed_change e)) es

-- what a run leaves of its entries to the next one: a beginning, behind which no change was completed
pub record LeavesBeginning (es kept : List Entry) : Type 0 where
  pub lost : List Entry
  pub es_are : es ≡ kept ++ lost
  pub none : HaveNoCompletedChange lost

-- the run that goes on behind a beginning of this one, without entries yet
abbrev pub run_behind : Run → List Entry → Run
run_behind old kept = record { config = old.config; earlier = old.earlier ++ kept ∷ []; entries = [] }

-- the first entry of a run over an image is its opening
abbrev pub IsOpened : List Entry → Type 0
IsOpened [] = ⊥
IsOpened (e ∷ es) = e ≡ Reopened

-- a run goes on behind what another left, and the text is the record of it
pub record IsNext (old : Run) (text : List ℕ) (next : Run) : Type 0 where
  pub kept : List Entry
  pub leaves : LeavesBeginning old.entries kept
  pub next_is : next ≡ behind (run_behind old kept) next.entries
  pub opened : IsOpened next.entries
  pub record_is : IsRecordFrom (run_behind old kept) text next.entries

-- texts are the records of runs that followed this one on one image, the last of which is that one
abbrev pub Follow : Run → List (List ℕ) → Run → Type 0
Follow old [] last = last ≡ old
Follow old (text ∷ texts) last = (next : Run) × IsNext old text next × Follow next texts last

-- one at least is the record of the first run on an image, and the others follow it; the last entry of the last run has the position `count`, so that the
-- history that stands has so many entries
pub record IsAuditedFrom (c : DriveConfig) (text : List ℕ) (texts : List (List ℕ)) (count : ℕ) : Type 0 where
  pub first : Run
  pub first_is : IsFirst c text first
  pub last : Run
  pub follow : Follow first texts last
  pub count_is : next_position last ≡ count + 1

-- texts are the records of runs that followed one another on one image, the first of them on a new one, of a drive of this configuration; the history that stands
-- behind them, without what stops lost, has so many entries
abbrev pub IsAudited : DriveConfig → List (List ℕ) → ℕ → Type 0
IsAudited c [] count = ⊥
IsAudited c (text ∷ texts) count = IsAuditedFrom c text texts count

-- ---- why a text is none

-- entries at positions that follow one another, the first of them this one
abbrev pub placed_from : ℕ → List Entry → List (ℕ × Entry)
placed_from position [] = []
placed_from position (e ∷ es) = (position, e) ∷ placed_from (position + 1) es

-- the entry behind those of a run has another position than the one that is due (0), or is no step after them (the number of its rule)
abbrev pub IsWrongNext : Run → ℕ × Entry → ℕ → Type 0
IsWrongNext r x why = ((x.0 ≢ next_position r) × (why ≡ 0)) ⊎ ((x.0 ≡ next_position r) × IsNoStep r x.1 (next_position r) why)

-- the position of the first entry of a run that begins here
abbrev pub first_position : Run → ℕ
first_position start = next_position (behind start [])

-- entries begin with a legal history of a run that begins here, at the positions that are due, and behind it stands a wrong one
pub record IsIllegal (start : Run) (entries : List (ℕ × Entry)) (at why : ℕ) : Type 0 where
  pub before : List Entry
  pub next : ℕ × Entry
  pub after : List (ℕ × Entry)
  pub entries_are : entries ≡ placed_from (first_position start) before ++ next ∷ after
  pub legal : IsLegal true start.config (found_of start) before
  pub at_is : at ≡ next_position (behind start before)
  pub wrong : IsWrongNext (behind start before) next why

-- a text is a record, and the entry that is due at a position of its history is a wrong one
pub record IsIllegalAt (start : Run) (text : List ℕ) (at why : ℕ) : Type 0 where
  pub traces : ℕ
  pub output : List ℕ
  pub entries : List (ℕ × Entry)
  pub record_is : IsRecord start.config text traces output entries
  pub illegal : IsIllegal start entries at why

-- a text is not another; the line of this number, from 1, is the first that they have not both at that place
pub record IsFirstOther (text other : List ℕ) (number : ℕ) : Type 0 where
  pub differ : text ≢ other
  pub count : ℕ
  pub same : SameLines other text count
  pub number_is : number ≡ length same.same.lines + 1

-- a text is a record of a legal history, and this line is the first that differs from the output that the history gives
pub record IsOtherAt (start : Run) (text : List ℕ) (line : ℕ) : Type 0 where
  pub traces : ℕ
  pub output : List ℕ
  pub es : List Entry
  pub record_is : IsRecord start.config text traces output (placed_from (first_position start) es)
  pub legal : IsLegal true start.config (found_of start) es
  pub other : IsFirstOther output (output_of start.config (found_of start) traces es) line

-- why a text is not the record of a run that begins here
abbrev pub IsCauseFrom : Run → List ℕ → RunFault → Type 0
IsCauseFrom start text (faults.Line line) = IsFaultLine start.config text line
IsCauseFrom start text (faults.Illegal at why) = IsIllegalAt start text at why
IsCauseFrom start text (faults.Output line) = IsOtherAt start text line
IsCauseFrom start text (faults.Lost at) = ⊥
IsCauseFrom start text faults.NoMemory = Unit {0}

-- ---- why a text is not the record of the next run

-- Entries do not begin with the opening of an image that a run with these entries left, the first of them at position `first`: there is none, at the position behind
-- them, or another stands first, at the position that it shows (the number of the rule of openings); or an opening stands first that has a position before the first
-- entry or behind the next one, which is told as due (0).
abbrev pub IsNoOpening : ℕ → List Entry → List (ℕ × Entry) → ℕ → ℕ → Type 0
IsNoOpening first es [] at why = (at ≡ first + length es) × (why ≡ number_of rules.Reopened)
IsNoOpening first es ((position, e) ∷ more) at why =
    ((e ≢ Reopened) × (at ≡ position) × (why ≡ number_of rules.Reopened))
    ⊎ ((e ≡ Reopened) × ((position < first) ⊎ (first + length es < position)) × (at ≡ first + length es) × (why ≡ 0))

-- a text is a record whose history does not begin behind this run
pub record IsUnopened (old : Run) (text : List ℕ) (at why : ℕ) : Type 0 where
  pub traces : ℕ
  pub output : List ℕ
  pub entries : List (ℕ × Entry)
  pub record_is : IsRecord old.config text traces output entries
  pub no_opening : IsNoOpening (first_position old) old.entries entries at why

-- a text is a record whose opening has the position of the entry behind a beginning of this run, and the run of the text begins there
pub record OpensBehind (old : Run) (text : List ℕ) (start : Run) : Type 0 where
  pub kept : List Entry
  pub lost : List Entry
  pub entries_are : old.entries ≡ kept ++ lost
  pub start_is : start ≡ run_behind old kept
  pub traces : ℕ
  pub output : List ℕ
  pub more : List (ℕ × Entry)
  pub record_is : IsRecord old.config text traces output ((first_position start, Reopened) ∷ more)

-- at this place, from 0, entries have a completed change, and none before it
pub record IsFirstCompleted (es : List Entry) (place : ℕ) : Type 0 where
  pub before : List Entry
  pub completed : Entry
  pub after : List Entry
  pub es_are : es ≡ before ++ completed ∷ after
  pub none : HaveNoCompletedChange before
  pub is_completed : IsTrue (is_completed_change completed)
  pub place_is : place ≡ length before

-- a text is the record of a run that goes on behind a beginning of this one, and the first completed change behind that had this position
pub record IsLostAt (old : Run) (text : List ℕ) (at : ℕ) : Type 0 where
  pub start : Run
  pub opens : OpensBehind old text start
  pub es : List Entry
  pub record_is : IsRecordFrom start text es
  pub place : ℕ
  pub first_lost : IsFirstCompleted opens.lost place
  pub at_is : at ≡ first_position start + place

-- why a text is not the record of the run behind this one
abbrev pub IsCauseNext : Run → List ℕ → RunFault → Type 0
IsCauseNext old text (faults.Line line) = IsFaultLine old.config text line
IsCauseNext old text (faults.Illegal at why) = IsUnopened old text at why ⊎ ((start : Run) × OpensBehind old text start × IsIllegalAt start text at why)
IsCauseNext old text (faults.Output line) = (start : Run) × OpensBehind old text start × IsOtherAt start text line
IsCauseNext old text (faults.Lost at) = IsLostAt old text at
IsCauseNext old text faults.NoMemory = Unit {0}

-- ---- of which record it is told

-- a change is lost of the record of this number; all else is told of the next one
abbrev pub number_told : ℕ → RunFault → ℕ
number_told number (faults.Line line) = number + 1
number_told number (faults.Illegal at why) = number + 1
number_told number (faults.Output line) = number + 1
number_told number (faults.Lost at) = number
number_told number faults.NoMemory = number + 1

-- why texts are not the records of runs that followed this one, whose record has this number: the first of them is none, or it is one and they do not follow that
abbrev pub IsCauseBehind : Run → List (List ℕ) → ℕ → AuditFault → Type 0
IsCauseBehind old [] number fault = ⊥
IsCauseBehind old (text ∷ texts) number fault =
    (IsCauseNext old text fault.cause × (fault.number ≡ number_told number fault.cause))
    ⊎ ((next : Run) × IsNext old text next × IsCauseBehind next texts (number + 1) fault)

-- why texts were refused: the first one, or one of those behind it
abbrev pub IsAuditCause : DriveConfig → List (List ℕ) → AuditFault → Type 0
IsAuditCause c [] fault = ⊥
IsAuditCause c (text ∷ texts) fault =
    (IsCauseFrom (first_run c) text fault.cause × (fault.number ≡ 1)) ⊎ ((first : Run) × IsFirst c text first × IsCauseBehind first texts 1 fault)

-- only for want of memory
abbrev pub IsWant : RunFault → Type 0
IsWant (faults.Line line) = ⊥
IsWant (faults.Illegal at why) = ⊥
IsWant (faults.Output line) = ⊥
IsWant (faults.Lost at) = ⊥
IsWant faults.NoMemory = Unit {0}

-- just this number was told, unless memory ran out
abbrev pub GivesYes : ℕ → Result ℕ AuditFault → Type 0
GivesYes count (Ok n) = n ≡ count
GivesYes count (Err fault) = IsWant fault.cause
