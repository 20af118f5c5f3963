-- What a run finds to serve: a configuration, an image and traces, which may come as streams; or to judge: a configuration and records; or what it lacks.
use Rattle.std.specs.Prelude.{String, ◌≡◌, ◌⊎◌, ℕ, ◌+◌, ◌<◌, ◌≤◌, List, [], length, take, map, slice_index_or, Option, Some, None}
use Rattle.std.specs.Global.{Vec}
use Rattle.std.specs.List.{AllZip}
use Rattle.std.specs.declared.alloc.Global.{Global}
use Rattle.fdp_base.specs.declared.command.Command.{Command}
use Rattle.fdp_base.specs.declared.config.DriveConfig.{DriveConfig}
use Rattle.fdp_base.specs.Config.{IsValidConfig}
use Rattle.fdp_base.specs.Counts.{Rose}
use Rattle.fdp_io.specs.Bench.{BenchState}
use Rattle.fdp_make.specs.Load.{make_config, make_traces}
use Rattle.fdp_trace.specs.Numbers.{value_of}
use Rattle.fdp_finding.specs.declared.asked.Form.{Form}
use Rattle.fdp_finding.specs.declared.asked.Form.TheVariants as forms
use Rattle.fdp_finding.specs.declared.fault.Fault.{Fault}
use Rattle.fdp_finding.specs.declared.fault.Fault.TheVariants as faults
use Rattle.fdp_finding.specs.declared.asked.Texts.{Texts}
use Rattle.fdp_finding.specs.declared.asked.Texts.TheVariants as texts
use Rattle.fdp_finding.specs.declared.no_record.NoRecord.{NoRecord}
use Rattle.fdp_finding.specs.declared.no_stream.NoStream.{NoStream}
use Rattle.fdp_finding.specs.declared.no_trace.NoTrace.{NoTrace}
use Rattle.fdp_finding.specs.Asked.{Asked, AsksForTexts, AuditNames, Names, asked_of, auditing, making, recording, recording_streams, running, streaming}
use Rattle.fdp_finding.specs.Configured.{ReadsConfig, ReadsNoConfig}
use Rattle.fdp_finding.specs.Recorded.{ReadsNoRecord, ReadsRecord, number_among}
use Rattle.fdp_finding.specs.Streamed.{ReadsNoStream, ReadsStream}
use Rattle.fdp_finding.specs.Traced.{ReadsNoTrace, ReadsTrace}

-- the commands of each trace
abbrev pub commands_of : List (Vec Command) → List (List Command)
commands_of traces = map (λ trace. trace.items) traces

-- the bytes of each text
abbrev pub texts_in : List (Vec ℕ) → List (List ℕ)
texts_in texts = map (λ text. text.items) texts

-- the text of this name says these commands: as a trace, or as a stream for blocks of this size
abbrev pub ReadsCommands : Texts → ℕ → BenchState → List ℕ → List Command → Type 0
ReadsCommands texts.Traces block bench name commands = ReadsTrace bench name commands
ReadsCommands texts.Streams block bench name commands = ReadsStream block bench name commands

-- the texts of these names are those of a configuration, with which a drive can be made, and of traces, or streams for its blocks, one a queue
pub record HasTexts (kind : Texts) (bench : BenchState) (names : Names) (c : DriveConfig) (image : List ℕ) (traces : List (List Command)) : Type 0 where
  pub config : ReadsConfig bench names.config c
  pub valid : IsValidConfig c
  pub image_is : image ≡ names.image
  pub queued : length names.traces ≤ c.queues
  pub commands : AllZip (ReadsCommands kind c.block bench) names.traces traces

-- the words ask in this form for names, and these are their texts
pub record FindsTexts (kind : Texts) (bench : BenchState) (words : List (String Global)) (asks : Names → Asked) (c : DriveConfig) (image : List ℕ) (traces : List (List Command)) : Type 0 where
  pub names : Names
  pub asked : asked_of words ≡ Some (asks names)
  pub found : HasTexts kind bench names c image traces

-- the words ask for a generated load of this number, and this are its drive and its traces
pub record FindsLoad (words : List (String Global)) (number : List ℕ) (c : DriveConfig) (image : List ℕ) (traces : List (List Command)) : Type 0 where
  pub asked : asked_of words ≡ Some (making (record { number = number; image = image }))
  pub config : c ≡ make_config
  pub valid : IsValidConfig c
  pub commands : traces ≡ make_traces (value_of 10 number)

-- the texts of these names are that of a configuration, with which a drive can be made, and those that are to be records, in the order of the names
pub record HasRecords (bench : BenchState) (names : AuditNames) (c : DriveConfig) (texts : List (List ℕ)) : Type 0 where
  pub config : ReadsConfig bench names.config c
  pub valid : IsValidConfig c
  pub texts_are : AllZip (ReadsRecord bench) names.texts texts

-- the words ask for an audit of these names, and these are their texts
pub record FindsRecords (bench : BenchState) (words : List (String Global)) (c : DriveConfig) (texts : List (List ℕ)) : Type 0 where
  pub names : AuditNames
  pub asked : asked_of words ≡ Some (auditing names)
  pub found : HasRecords bench names c texts

-- What was found of what the words ask for, a case for each kind of run: a session on the drive of one image, in a form, with this configuration, image and traces;
-- or texts to be audited, as the records of runs that followed one another on an image of a drive of this configuration, which was new before the first.
pub data Sought : Type 0 where
  session : Form → DriveConfig → (image : List ℕ) → (traces : List (List Command)) → Sought
  audited : DriveConfig → (texts : List (List ℕ)) → Sought

-- what the words ask for, in each form
abbrev pub Finds : BenchState → List (String Global) → Sought → Type 0
Finds bench words (session forms.Run c image traces) = FindsTexts texts.Traces bench words running c image traces
Finds bench words (session forms.Record c image traces) = FindsTexts texts.Traces bench words recording c image traces
Finds bench words (session forms.Stream c image traces) = FindsTexts texts.Streams bench words streaming c image traces
Finds bench words (session forms.StreamRecord c image traces) = FindsTexts texts.Streams bench words recording_streams c image traces
Finds bench words (session (forms.Make number) c image traces) = FindsLoad words number.now c image traces
Finds bench words (audited c texts) = FindsRecords bench words c texts

-- ---- what is lacking

-- some of these names have no queue, and this is the number of the first of them
pub record AreUnqueued (queues : ℕ) (names : List (List ℕ)) (trace : ℕ) : Type 0 where
  pub many : queues < length names
  pub first : trace ≡ queues + 1

-- each of these names has a queue, the texts in front of this one say commands, and this one says none, for a cause
pub record IsFirstLacking (Reads : List ℕ → List Command → Type 0) (ReadsNo : List ℕ → Type 0) (queues : ℕ) (names : List (List ℕ)) (trace : ℕ) : Type 0 where
  pub queued : length names ≤ queues
  pub index : ℕ
  pub number : trace ≡ index + 1
  pub within : index < length names
  pub front : List (List Command)
  pub read : AllZip Reads (take index names) front
  pub none : ReadsNo (slice_index_or names index [])

-- they are traces, and the one of this number is the first that is none, for this cause
abbrev pub LacksTrace : Texts → BenchState → DriveConfig → List (List ℕ) → ℕ → NoTrace → Type 0
LacksTrace kind bench c names trace cause = (kind ≡ texts.Traces) × IsFirstLacking (ReadsTrace bench) (λ name. ReadsNoTrace bench name cause) c.queues names trace

-- they are streams, and the one of this number is the first that is none, for this cause
abbrev pub LacksStream : Texts → BenchState → DriveConfig → List (List ℕ) → ℕ → NoStream → Type 0
LacksStream kind bench c names stream cause =
    (kind ≡ texts.Streams) × IsFirstLacking (ReadsStream c.block bench) (λ name. ReadsNoStream c.block bench name cause) c.queues names stream

-- the text of the configuration is one, and this holds of it and of the names of the traces
pub record LacksTraces (bench : BenchState) (names : Names) (Lacking : DriveConfig → List (List ℕ) → Type 0) : Type 0 where
  pub config : DriveConfig
  pub configured : ReadsConfig bench names.config config
  pub lacking : Lacking config names.traces

-- why a run does not find the texts of these names
abbrev pub TextsLack : Texts → BenchState → BenchState → Names → Fault → Type 0
TextsLack kind old new names faults.Usage = ⊥
TextsLack kind old new names (faults.Config cause) = ReadsNoConfig old names.config cause
TextsLack kind old new names (faults.NoQueue trace) = LacksTraces old names (λ c traces. AreUnqueued c.queues traces trace)
TextsLack kind old new names (faults.Trace trace cause) = LacksTraces old names (λ c traces. LacksTrace kind old c traces trace cause)
TextsLack kind old new names (faults.Stream stream cause) = LacksTraces old names (λ c streams. LacksStream kind old c streams stream cause)
TextsLack kind old new names (faults.Image cause) = ⊥
TextsLack kind old new names faults.Flash = ⊥
TextsLack kind old new names faults.Source = Rose old.faults new.faults
TextsLack kind old new names faults.NoMemory = Unit {0}
TextsLack kind old new names faults.Turns = ⊥
TextsLack kind old new names (faults.Record number cause) = ⊥
TextsLack kind old new names (faults.Audit number at why) = ⊥
TextsLack kind old new names (faults.Output number line) = ⊥
TextsLack kind old new names (faults.Lost number at) = ⊥

-- the words ask for texts, which are not found, for this cause
pub record LacksTexts (old new : BenchState) (words : List (String Global)) (fault : Fault) : Type 0 where
  pub kind : Texts
  pub names : Names
  pub asked : AsksForTexts words kind names
  pub lacks : TextsLack kind old new names fault

-- the texts in front of the one with this index may be records, and this one is none, for this cause; where several are named, it has its number, from 1
pub record IsFirstNoRecord (bench : BenchState) (names : List (List ℕ)) (number : Option ℕ) (cause : NoRecord) : Type 0 where
  pub index : ℕ
  pub numbered : number ≡ number_among (length names) (index + 1)
  pub within : index < length names
  pub front : List (List ℕ)
  pub read : AllZip (ReadsRecord bench) (take index names) front
  pub none : ReadsNoRecord bench (slice_index_or names index []) cause

-- the text of the configuration is one, and of the records this one is the first that is none, for this cause
pub record LacksRecord (bench : BenchState) (names : AuditNames) (number : Option ℕ) (cause : NoRecord) : Type 0 where
  pub config : DriveConfig
  pub configured : ReadsConfig bench names.config config
  pub first : IsFirstNoRecord bench names.texts number cause

-- why an audit does not find the texts of these names
abbrev pub AuditLacks : BenchState → BenchState → AuditNames → Fault → Type 0
AuditLacks old new names faults.Usage = ⊥
AuditLacks old new names (faults.Config cause) = ReadsNoConfig old names.config cause
AuditLacks old new names (faults.NoQueue trace) = ⊥
AuditLacks old new names (faults.Trace trace cause) = ⊥
AuditLacks old new names (faults.Stream stream cause) = ⊥
AuditLacks old new names (faults.Image cause) = ⊥
AuditLacks old new names faults.Flash = ⊥
AuditLacks old new names faults.Source = Rose old.faults new.faults
AuditLacks old new names faults.NoMemory = Unit {0}
AuditLacks old new names faults.Turns = ⊥
AuditLacks old new names (faults.Record number cause) = LacksRecord old names number cause
AuditLacks old new names (faults.Audit number at why) = ⊥
AuditLacks old new names (faults.Output number line) = ⊥
AuditLacks old new names (faults.Lost number at) = ⊥

-- the words ask for an audit, and its texts are not found, for this cause
pub record LacksAudit (old new : BenchState) (words : List (String Global)) (fault : Fault) : Type 0 where
  pub names : AuditNames
  pub asked : asked_of words ≡ Some (auditing names)
  pub lacks : AuditLacks old new names fault

-- why it finds no texts of records with these names
abbrev pub RecordsLack : BenchState → BenchState → List (List ℕ) → Fault → Type 0
RecordsLack old new names faults.Usage = ⊥
RecordsLack old new names (faults.Config cause) = ⊥
RecordsLack old new names (faults.NoQueue trace) = ⊥
RecordsLack old new names (faults.Trace trace cause) = ⊥
RecordsLack old new names (faults.Stream stream cause) = ⊥
RecordsLack old new names (faults.Image cause) = ⊥
RecordsLack old new names faults.Flash = ⊥
RecordsLack old new names faults.Source = Rose old.faults new.faults
RecordsLack old new names faults.NoMemory = Unit {0}
RecordsLack old new names faults.Turns = ⊥
RecordsLack old new names (faults.Record number cause) = IsFirstNoRecord old names number cause
RecordsLack old new names (faults.Audit number at why) = ⊥
RecordsLack old new names (faults.Output number line) = ⊥
RecordsLack old new names (faults.Lost number at) = ⊥

-- why it finds no text of the record with this name, which has this number where several are named
abbrev pub RecordLacks : BenchState → BenchState → Option ℕ → List ℕ → Fault → Type 0
RecordLacks old new number name faults.Usage = ⊥
RecordLacks old new number name (faults.Config cause) = ⊥
RecordLacks old new number name (faults.NoQueue trace) = ⊥
RecordLacks old new number name (faults.Trace trace cause) = ⊥
RecordLacks old new number name (faults.Stream stream cause) = ⊥
RecordLacks old new number name (faults.Image cause) = ⊥
RecordLacks old new number name faults.Flash = ⊥
RecordLacks old new number name faults.Source = Rose old.faults new.faults
RecordLacks old new number name faults.NoMemory = Unit {0}
RecordLacks old new number name faults.Turns = ⊥
RecordLacks old new number name (faults.Record which cause) = (which ≡ number) × ReadsNoRecord old name cause
RecordLacks old new number name (faults.Audit which at why) = ⊥
RecordLacks old new number name (faults.Output which line) = ⊥
RecordLacks old new number name (faults.Lost which at) = ⊥

-- the cause of each fault
abbrev pub Lacks : BenchState → BenchState → List (String Global) → Fault → Type 0
Lacks old new words faults.Usage = asked_of words ≡ None
Lacks old new words (faults.Config cause) = LacksTexts old new words (faults.Config cause) ⊎ LacksAudit old new words (faults.Config cause)
Lacks old new words (faults.NoQueue trace) = LacksTexts old new words (faults.NoQueue trace)
Lacks old new words (faults.Trace trace cause) = LacksTexts old new words (faults.Trace trace cause)
Lacks old new words (faults.Stream stream cause) = LacksTexts old new words (faults.Stream stream cause)
Lacks old new words (faults.Image cause) = ⊥
Lacks old new words faults.Flash = ⊥
Lacks old new words faults.Source = LacksTexts old new words faults.Source ⊎ LacksAudit old new words faults.Source
Lacks old new words faults.NoMemory = Unit {0}
Lacks old new words faults.Turns = ⊥
Lacks old new words (faults.Record number cause) = LacksAudit old new words (faults.Record number cause)
Lacks old new words (faults.Audit number at why) = ⊥
Lacks old new words (faults.Output number line) = ⊥
Lacks old new words (faults.Lost number at) = ⊥

-- why a run finds no configuration of this name
abbrev pub ConfigLacks : BenchState → BenchState → List ℕ → Fault → Type 0
ConfigLacks old new name faults.Usage = ⊥
ConfigLacks old new name (faults.Config cause) = ReadsNoConfig old name cause
ConfigLacks old new name (faults.NoQueue trace) = ⊥
ConfigLacks old new name (faults.Trace trace cause) = ⊥
ConfigLacks old new name (faults.Stream stream cause) = ⊥
ConfigLacks old new name (faults.Image cause) = ⊥
ConfigLacks old new name faults.Flash = ⊥
ConfigLacks old new name faults.Source = Rose old.faults new.faults
ConfigLacks old new name faults.NoMemory = Unit {0}
ConfigLacks old new name faults.Turns = ⊥
ConfigLacks old new name (faults.Record number cause) = ⊥
ConfigLacks old new name (faults.Audit number at why) = ⊥
ConfigLacks old new name (faults.Output number line) = ⊥
ConfigLacks old new name (faults.Lost number at) = ⊥

-- why it finds no commands of these names, with this configuration
abbrev pub TracesLack : Texts → DriveConfig → BenchState → BenchState → List (List ℕ) → Fault → Type 0
TracesLack kind c old new names faults.Usage = ⊥
TracesLack kind c old new names (faults.Config cause) = ⊥
TracesLack kind c old new names (faults.NoQueue trace) = AreUnqueued c.queues names trace
TracesLack kind c old new names (faults.Trace trace cause) = LacksTrace kind old c names trace cause
TracesLack kind c old new names (faults.Stream stream cause) = LacksStream kind old c names stream cause
TracesLack kind c old new names (faults.Image cause) = ⊥
TracesLack kind c old new names faults.Flash = ⊥
TracesLack kind c old new names faults.Source = Rose old.faults new.faults
TracesLack kind c old new names faults.NoMemory = Unit {0}
TracesLack kind c old new names faults.Turns = ⊥
TracesLack kind c old new names (faults.Record number cause) = ⊥
TracesLack kind c old new names (faults.Audit number at why) = ⊥
TracesLack kind c old new names (faults.Output number line) = ⊥
TracesLack kind c old new names (faults.Lost number at) = ⊥

-- why it finds no commands of the name with this number, for blocks of this size
abbrev pub CommandsLack : Texts → ℕ → BenchState → BenchState → ℕ → List ℕ → Fault → Type 0
CommandsLack kind block old new number name faults.Usage = ⊥
CommandsLack kind block old new number name (faults.Config cause) = ⊥
CommandsLack kind block old new number name (faults.NoQueue trace) = ⊥
CommandsLack kind block old new number name (faults.Trace trace cause) = (kind ≡ texts.Traces) × (trace ≡ number) × ReadsNoTrace old name cause
CommandsLack kind block old new number name (faults.Stream stream cause) = (kind ≡ texts.Streams) × (stream ≡ number) × ReadsNoStream block old name cause
CommandsLack kind block old new number name (faults.Image cause) = ⊥
CommandsLack kind block old new number name faults.Flash = ⊥
CommandsLack kind block old new number name faults.Source = Rose old.faults new.faults
CommandsLack kind block old new number name faults.NoMemory = Unit {0}
CommandsLack kind block old new number name faults.Turns = ⊥
CommandsLack kind block old new number name (faults.Record which cause) = ⊥
CommandsLack kind block old new number name (faults.Audit which at why) = ⊥
CommandsLack kind block old new number name (faults.Output which line) = ⊥
CommandsLack kind block old new number name (faults.Lost which at) = ⊥

-- a call of the bench that failed was counted where that is the fault, and nothing was where it is another
abbrev pub CountsSource : ℕ → ℕ → Fault → Type 0
CountsSource old new faults.Usage = new ≡ old
CountsSource old new (faults.Config cause) = new ≡ old
CountsSource old new (faults.NoQueue trace) = new ≡ old
CountsSource old new (faults.Trace trace cause) = new ≡ old
CountsSource old new (faults.Stream stream cause) = new ≡ old
CountsSource old new (faults.Image cause) = new ≡ old
CountsSource old new faults.Flash = new ≡ old
CountsSource old new faults.Source = Rose old new
CountsSource old new faults.NoMemory = new ≡ old
CountsSource old new faults.Turns = new ≡ old
CountsSource old new (faults.Record number cause) = new ≡ old
CountsSource old new (faults.Audit number at why) = new ≡ old
CountsSource old new (faults.Output number line) = new ≡ old
CountsSource old new (faults.Lost number at) = new ≡ old
