-- The command that a text says in a frame: its first line has the entry, and the lines below it the data. The contracts of private steps cite it.
use Rattle.std.specs.Prelude.{◌≡◌, ◌⊎◌, ℕ, ◌-◌, ◌*◌, Bool, true, false, if◌then◌else◌, List, [], ◌∷◌, ◌++◌, take, replicate, codes, bytes_eq, Option, Some, None, Result, Ok, Err}
use Rattle.std.specs.List.{before_first, after_first}
use Rattle.fdp_base.specs.declared.command.Command.{Command}
use Rattle.fdp_layouts.specs.declared.submission.Sqe.{Sqe}
use Rattle.fdp_layouts.specs.Frame.{Fits}
use Rattle.fdp_layouts.specs.Submission.{sqe, sqe_numbers}
use Rattle.fdp_queues.specs.Entry.{entry_bytes}
use Rattle.fdp_binary.specs.declared.asked.Asked.{Asked}
use Rattle.fdp_binary.specs.declared.asked.Asked.TheVariants as asks
use Rattle.fdp_binary.specs.Asked.{IsAsked}
use Rattle.fdp_binary.specs.Carrying.{admin_made, entry_made}
use Rattle.fdp_binary.specs.Fields.{blocks_in}
use Rattle.fdp_binary.specs.Saying.{Says}
use Rattle.fdp_output.specs.CommandText.{is_spelled}
use Rattle.fdp_trace.specs.declared.fault.FaultKind.{FaultKind}
use Rattle.fdp_trace.specs.declared.fault.FaultKind.TheVariants as kinds
use Rattle.fdp_trace.specs.Reader.FrontOf.{is_line_feed}
use Rattle.fdp_trace.specs.Reader.Reading.{◌>>=◌}
use Rattle.fdp_trace.specs.Words.{words_of}
use Rattle.fdp_prints.specs.Told.{IsFramed}
use Rattle.fdp_prints.specs.Reader.{Words, bytes_in, command_words_in, data_read, flag}

-- ---- the entry

unfoldable pub digits_in : Bool → Words → Result (Bool × List ℕ) FaultKind
digits_in admin [] = Err kinds.Count
digits_in admin (word ∷ ws) = Ok (admin, bytes_in 64 word)

-- the queue of an entry and its 64 bytes, from the words of a command
unfoldable pub work_in : Words → Result (Bool × List ℕ) FaultKind
work_in [] = Err kinds.Count
work_in (word ∷ ws) = if bytes_eq word (codes "entry") then (flag ws >>= λ admin. digits_in admin.0 admin.1) else Err kinds.Word

-- from the first line of a text
abbrev pub work_read : List ℕ → Result (Bool × List ℕ) FaultKind
work_read text = work_in (command_words_in (words_of (before_first is_line_feed text)))

-- ---- the data

-- a block that no pattern has
abbrev pub other_block : ℕ → List ℕ
other_block block = 1 ∷ replicate (block - 1) 0

-- data of so many blocks, the last of them that one
abbrev pub unlike : ℕ → ℕ → List ℕ → List ℕ
unlike block count bytes = take ((count - 1) * block) bytes ++ other_block block

-- the data that are read; of a write that with them would be one that a line says, those that differ in the last block, since that is the first which
-- no frame goes on with
abbrev pub IsTried : ℕ → Bool → Option Asked → Sqe → List ℕ → List ℕ → Type 0
IsTried block admin asked e read body =
    (body ≡ read) ⊎ ((asked ≡ Some asks.Write) × (body ≡ unlike block (blocks_in e) read) × ((command : Command) × Says block admin e read command × (is_spelled command ≡ true)))

-- ---- the command

-- these bytes are an entry that with its data says the command, which no line says
pub record IsReadBy (block : ℕ) (admin : Bool) (bytes behind : List ℕ) (command : Command) : Type 0 where
  pub entry : Sqe
  pub asked : Option Asked
  pub body : List ℕ
  pub bytes-are : bytes ≡ entry_bytes entry
  pub fits : Fits sqe (sqe_numbers entry)
  pub asks : IsAsked admin entry asked
  pub tried : IsTried block admin asked entry (data_read block asked entry behind) body
  pub says : Says block admin entry body command
  pub line : is_spelled command ≡ false

-- the command, or none: then no command of a frame, which no line says, has this entry
abbrev pub GivenBy : ℕ → Bool → List ℕ → List ℕ → Option Command → Type 0
GivenBy block admin bytes behind None = (command : Command) → IsFramed block command → admin ≡ admin_made command → bytes ≡ entry_bytes (entry_made command) → ⊥
GivenBy block admin bytes behind (Some command) = IsReadBy block admin bytes behind command

abbrev pub GivenFrom : ℕ → List ℕ → Result (Bool × List ℕ) FaultKind → Option Command → Type 0
GivenFrom block behind (Ok work) given = GivenBy block work.0 work.1 behind given
GivenFrom block behind (Err kind) given = given ≡ None

-- what a text gives for an entry on its first line
abbrev pub IsGivenBy : ℕ → List ℕ → Option Command → Type 0
IsGivenBy block text given = GivenFrom block (after_first is_line_feed text) (work_read text) given
