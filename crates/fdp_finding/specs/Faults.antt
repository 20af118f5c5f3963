-- The statuses and the lines of the faults.
use Rattle.std.specs.Prelude.{ℕ, List, [], ◌∷◌, ◌++◌, Option, Some, None, codes, decimal}
use Rattle.fdp_binary.specs.FaultWord.{kind_word as frame_word}
use Rattle.fdp_config.specs.declared.fault.ConfigFault.{ConfigFault}
use Rattle.fdp_config.specs.declared.fault.ConfigFault.TheVariants as configs
use Rattle.fdp_config.specs.declared.fault.NoConfig.{NoConfig}
use Rattle.fdp_config.specs.declared.fault.NoConfig.TheVariants.{Faulty}
use Rattle.fdp_config.specs.Table.{row_of}
use Rattle.fdp_config.specs.Words.{no_config_words}
use Rattle.fdp_trace.specs.FaultWord.{kind_word}
use Rattle.fdp_finding.specs.declared.fault.Fault.{Fault}
use Rattle.fdp_finding.specs.declared.fault.Fault.TheVariants as faults
use Rattle.fdp_finding.specs.declared.image.ImageFault.{ImageFault}
use Rattle.fdp_finding.specs.declared.image.ImageFault.TheVariants as images
use Rattle.fdp_finding.specs.declared.no_record.NoRecord.{NoRecord}
use Rattle.fdp_finding.specs.declared.no_record.NoRecord.TheVariants as records
use Rattle.fdp_finding.specs.declared.no_stream.NoStream.{NoStream}
use Rattle.fdp_finding.specs.declared.no_stream.NoStream.TheVariants as streams
use Rattle.fdp_finding.specs.declared.no_trace.NoTrace.{NoTrace}
use Rattle.fdp_finding.specs.declared.no_trace.NoTrace.TheVariants as traces

-- a fault of a configuration text as one of a run
abbrev pub of_config : ConfigFault → Fault
of_config configs.NotToml = faults.Config (Faulty configs.NotToml)
of_config (configs.Unknown key) = faults.Config (Faulty (configs.Unknown key))
of_config (configs.Missing key) = faults.Config (Faulty (configs.Missing key))
of_config (configs.Kind key) = faults.Config (Faulty (configs.Kind key))
of_config (configs.Range key value) = faults.Config (Faulty (configs.Range key value))
of_config (configs.NoRoom needed budget) = faults.Config (Faulty (configs.NoRoom needed budget))
of_config configs.NoMemory = faults.NoMemory

abbrev pub status_of : Fault → ℕ
status_of faults.Usage = 1
status_of (faults.Config cause) = 2
status_of (faults.NoQueue trace) = 3
status_of (faults.Trace trace cause) = 3
status_of (faults.Image cause) = 4
status_of faults.Flash = 5
status_of faults.Source = 6
status_of faults.NoMemory = 7
status_of faults.Turns = 9
status_of (faults.Stream stream cause) = 12
status_of (faults.Audit number at why) = 13
status_of (faults.Output number line) = 13
status_of (faults.Lost number at) = 13
status_of (faults.Record number cause) = 14

-- the line where there is no configuration
abbrev pub config_fault : NoConfig → List ℕ
config_fault cause = codes "fault 2 " ++ (no_config_words cause ++ 10 ∷ [])

-- the words for an image that a drive does not go on from
abbrev pub image_words : ImageFault → List ℕ
image_words (images.Other key) = codes "image other " ++ (row_of key).word
image_words images.NotADrive = codes "image not-a-drive"
image_words (images.Bad page) = codes "image bad " ++ decimal page
image_words images.Spent = codes "image spent"

-- the line of such an image
abbrev pub image_fault : ImageFault → List ℕ
image_fault cause = codes "fault 4 " ++ (image_words cause ++ 10 ∷ [])

-- the words for a text that is that of no trace
abbrev pub no_trace_words : NoTrace → List ℕ
no_trace_words traces.Absent = codes "absent"
no_trace_words traces.TooLong = codes "long"
no_trace_words (traces.Line line kind) = codes "line " ++ (decimal line ++ (codes " " ++ kind_word kind))

-- the line for the trace of a number
abbrev pub trace_fault : ℕ → List ℕ → List ℕ
trace_fault number words = codes "fault 3 trace " ++ (decimal number ++ (32 ∷ (words ++ 10 ∷ [])))

-- the words for a text that is no stream
abbrev pub no_stream_words : NoStream → List ℕ
no_stream_words streams.Absent = codes "absent"
no_stream_words streams.TooLong = codes "long"
no_stream_words (streams.Broken fault) = codes "at " ++ (decimal fault.at ++ (codes " " ++ frame_word fault.kind))

-- the line for the stream of a number
abbrev pub stream_fault : ℕ → List ℕ → List ℕ
stream_fault number words = codes "fault 12 stream " ++ (decimal number ++ (32 ∷ (words ++ 10 ∷ [])))

-- the words for a text that is no record
abbrev pub no_record_words : NoRecord → List ℕ
no_record_words records.Absent = codes "absent"
no_record_words records.TooLong = codes "long"
no_record_words (records.Line line) = decimal line

-- the words for the number of a record, where several are given
abbrev pub number_words : Option ℕ → List ℕ
number_words None = []
number_words (Some number) = decimal number ++ 32 ∷ []

-- the line of such a text
abbrev pub record_fault : Option ℕ → NoRecord → List ℕ
record_fault number cause = codes "fault 14 record " ++ (number_words number ++ (no_record_words cause ++ 10 ∷ []))

-- the line of an entry that a history does not go on with: the position that is due, and its cause
abbrev pub audit_fault : Option ℕ → ℕ → ℕ → List ℕ
audit_fault number at why = codes "fault 13 audit " ++ (number_words number ++ (decimal at ++ (32 ∷ (decimal why ++ 10 ∷ []))))

-- the line of an output that is not the one due
abbrev pub output_fault : Option ℕ → ℕ → List ℕ
output_fault number line = codes "fault 13 output " ++ (number_words number ++ (decimal line ++ 10 ∷ []))

-- the line of a change that the next run does not go on from: its record and its position
abbrev pub lost_fault : ℕ → ℕ → List ℕ
lost_fault number at = codes "fault 13 lost " ++ (number_words (Some number) ++ (decimal at ++ 10 ∷ []))

-- the line that a run prints; want of memory has none
abbrev pub fault_text : Fault → List ℕ
fault_text faults.Usage = codes "fault 1 usage\n"
fault_text (faults.Config cause) = config_fault cause
fault_text (faults.NoQueue trace) = trace_fault trace (codes "queue")
fault_text (faults.Trace trace cause) = trace_fault trace (no_trace_words cause)
fault_text (faults.Image cause) = image_fault cause
fault_text faults.Flash = codes "fault 5 flash\n"
fault_text faults.Source = codes "fault 6 source\n"
fault_text faults.NoMemory = []
fault_text faults.Turns = codes "fault 9 turns\n"
fault_text (faults.Stream stream cause) = stream_fault stream (no_stream_words cause)
fault_text (faults.Record number cause) = record_fault number cause
fault_text (faults.Audit number at why) = audit_fault number at why
fault_text (faults.Output number line) = output_fault number line
fault_text (faults.Lost number at) = lost_fault number at
