-- The commands that lines spell, from the words behind the first.
use Rattle.std.specs.Prelude.{ℕ, Bool, true, not, if◌then◌else◌, ◌==◌, List, [], ◌∷◌, length, codes, bytes_eq, Option, Some, None, Result, Ok, Err}
use Rattle.fdp_base.specs.declared.command.Command.{Command}
use Rattle.fdp_base.specs.declared.command.Command.TheVariants as commands
use Rattle.fdp_base.specs.declared.command.Range.{Range}
use Rattle.fdp_base.specs.Codes.{directive_code, receive_code, send_code}
use Rattle.fdp_base.specs.declared.codes.Directive.TheVariants as directives
use Rattle.fdp_base.specs.declared.codes.ReceiveOperation.TheVariants as receives
use Rattle.fdp_base.specs.declared.codes.SendOperation.TheVariants as sends
use Rattle.fdp_base.specs.declared.payload.Payload.TheVariants.{Pattern}
use Rattle.fdp_trace.specs.declared.limits.TheConstants.{MOST_AMOUNT}
use Rattle.fdp_trace.specs.declared.fault.FaultKind.{FaultKind}
use Rattle.fdp_trace.specs.declared.fault.FaultKind.TheVariants as kinds
use Rattle.fdp_trace.specs.declared.command_word.CommandWord.{CommandWord}
use Rattle.fdp_trace.specs.declared.command_word.CommandWord.TheVariants as words
use Rattle.fdp_trace.specs.Reader.Shapes.{word_named, accepts, words_fit, numbers_fit}
use Rattle.fdp_trace.specs.Reader.Reading.{◌>>=◌, within, field}

abbrev pub field_8 : List (List ℕ) → Result (ℕ × List (List ℕ)) FaultKind
field_8 texts = field 0 255 texts

abbrev pub field_16 : List (List ℕ) → Result (ℕ × List (List ℕ)) FaultKind
field_16 texts = field 0 65535 texts

abbrev pub field_32 : List (List ℕ) → Result (ℕ × List (List ℕ)) FaultKind
field_32 texts = field 0 4294967295 texts

abbrev pub field_64 : List (List ℕ) → Result (ℕ × List (List ℕ)) FaultKind
field_64 texts = field 0 18446744073709551615 texts

-- a number of blocks or dwords
abbrev pub field_count : List (List ℕ) → Result (ℕ × List (List ℕ)) FaultKind
field_count texts = field 1 MOST_AMOUNT texts

-- on or off, or whatever else is asked for
unfoldable pub choice : List ℕ → List (List ℕ) → Result (Bool × List (List ℕ)) FaultKind
choice wanted [] = Err kinds.Count
choice wanted (text ∷ texts) = Ok (bytes_eq text wanted, texts)

-- the directive of a write: none, or the placement identifier behind its word
unfoldable pub directive : List (List ℕ) → Result (ℕ × ℕ) FaultKind
directive [] = Ok (directive_code directives.Absent, 0)
directive (word ∷ texts) = field_16 texts >>= λ pid. Ok (directive_code directives.DataPlacement, pid.0)

unfoldable pub write_of : List (List ℕ) → Result Command FaultKind
write_of texts = do
  nsid ← field_32 texts
  slba ← field_64 nsid.1
  count ← field_count slba.1
  seed ← field_32 count.1
  place ← directive seed.1
  Ok (commands.Write (record { nsid = nsid.0; slba = slba.0; count = count.0; dtype = place.0; dspec = place.1; payload = Pattern seed.0 }))

unfoldable pub read_of : List (List ℕ) → Result Command FaultKind
read_of texts = do
  nsid ← field_32 texts
  slba ← field_64 nsid.1
  count ← field_count slba.1
  Ok (commands.Read (record { nsid = nsid.0; slba = slba.0; count = count.0 }))

unfoldable pub zero_of : List (List ℕ) → Result Command FaultKind
zero_of texts = do
  nsid ← field_32 texts
  slba ← field_64 nsid.1
  count ← field_count slba.1
  Ok (commands.Zero (record { nsid = nsid.0; slba = slba.0; count = count.0 }))

unfoldable pub range_of : List ℕ → List ℕ → Result Range FaultKind
range_of first second = do
  slba ← within 0 18446744073709551615 first
  length ← within 0 4294967295 second
  Ok (record { slba = slba; length = length })

-- all words as ranges, two words each
unfoldable pub ranges_of : List (List ℕ) → Result (List Range) FaultKind
ranges_of [] = Ok []
ranges_of (slba ∷ []) = Err kinds.Count
ranges_of (slba ∷ length ∷ texts) = do
  range ← range_of slba length
  others ← ranges_of texts
  Ok (range ∷ others)

unfoldable pub dealloc_of : List (List ℕ) → Result Command FaultKind
dealloc_of texts = do
  nsid ← field_32 texts
  ranges ← ranges_of nsid.1
  Ok (commands.Dealloc (record { nsid = nsid.0; deallocate = true; ranges = ranges }))

unfoldable pub flush_of : List (List ℕ) → Result Command FaultKind
flush_of texts = do
  nsid ← field_32 texts
  Ok (commands.Flush (record { nsid = nsid.0 }))

unfoldable pub delete_of : List (List ℕ) → Result Command FaultKind
delete_of texts = do
  nsid ← field_32 texts
  Ok (commands.Delete (record { nsid = nsid.0 }))

unfoldable pub status_of : List (List ℕ) → Result Command FaultKind
status_of texts = do
  nsid ← field_32 texts
  dwords ← field_count nsid.1
  Ok (commands.Status (record { nsid = nsid.0; mo = receive_code receives.HandleStatus; dwords = dwords.0 }))

-- all words as numbers up to a bound
unfoldable pub numbers_of : ℕ → List (List ℕ) → Result (List ℕ) FaultKind
numbers_of high [] = Ok []
numbers_of high (text ∷ texts) = do
  number ← within 0 high text
  others ← numbers_of high texts
  Ok (number ∷ others)

unfoldable pub update_of : List (List ℕ) → Result Command FaultKind
update_of texts = do
  nsid ← field_32 texts
  pids ← numbers_of 65535 nsid.1
  Ok (commands.Update (record { nsid = nsid.0; mo = send_code sends.HandleUpdate; pids = pids }))

-- host or ctrl; ctrl where no word is left
unfoldable pub class_of : List (List ℕ) → Result ℕ FaultKind
class_of [] = Ok 0
class_of (text ∷ texts) = Ok (if bytes_eq text (codes "host") then 1 else 0)

unfoldable pub log_of : List (List ℕ) → Result Command FaultKind
log_of texts = do
  lid ← field_8 texts
  offset ← field_64 lid.1
  dwords ← field_count offset.1
  lsp ← class_of dwords.1
  Ok (commands.Log (record { lid = lid.0; lsp = lsp; group = 1; offset = offset.0; dwords = dwords.0 }))

unfoldable pub set_fdp_of : List (List ℕ) → Result Command FaultKind
set_fdp_of texts = do
  enable ← choice (codes "on") texts
  index ← field_8 enable.1
  Ok (commands.SetFdp (record { group = 1; enable = enable.0; index = index.0 }))

unfoldable pub set_events_of : List (List ℕ) → Result Command FaultKind
set_events_of texts = do
  nsid ← field_32 texts
  handle ← field_16 nsid.1
  enable ← choice (codes "on") handle.1
  types ← numbers_of 255 enable.1
  Ok (commands.SetEvents (record { nsid = nsid.0; handle = handle.0; enable = enable.0; types = types }))

unfoldable pub create_of : List (List ℕ) → Result Command FaultKind
create_of texts = do
  blocks ← field_64 texts
  handles ← numbers_of 65535 blocks.1
  Ok (commands.Create (record { size = blocks.0; given = not (length handles == 0); list = handles }))

-- the command of a line of this word, with the words behind it
abbrev pub spelled : CommandWord → List (List ℕ) → Result Command FaultKind
spelled words.Write texts = write_of texts
spelled words.Read texts = read_of texts
spelled words.Zero texts = zero_of texts
spelled words.Dealloc texts = dealloc_of texts
spelled words.Flush texts = flush_of texts
spelled words.Status texts = status_of texts
spelled words.Update texts = update_of texts
spelled words.Log texts = log_of texts
spelled words.SetFdp texts = set_fdp_of texts
spelled words.GetFdp texts = Ok (commands.GetFdp (record { group = 1 }))
spelled words.SetEvents texts = set_events_of texts
spelled words.Create texts = create_of texts
spelled words.Delete texts = delete_of texts

-- the command of a line, or its first fault: a word, the number of words, a number, a range
unfoldable pub checked : CommandWord → List (List ℕ) → Result Command FaultKind
checked word texts =
    if not (accepts word (length texts)) then Err kinds.Count
    else (if not (words_fit word 0 texts) then Err kinds.Word
    else (if not (numbers_fit word 0 texts) then Err kinds.Number
    else spelled word texts))

abbrev pub command_from : Option CommandWord → List (List ℕ) → Result Command FaultKind
command_from None texts = Err kinds.Word
command_from (Some word) texts = checked word texts

unfoldable pub command_of : List (List ℕ) → Result Command FaultKind
command_of [] = Err kinds.Word
command_of (first ∷ texts) = command_from (word_named first) texts

-- how many items the list of a command has; memory is taken for these alone
abbrev pub listed : Command → ℕ
listed (commands.Dealloc d) = length d.ranges
listed (commands.Update u) = length u.pids
listed (commands.SetEvents s) = length s.types
listed (commands.Create c) = length c.list
listed (commands.Write w) = 0
listed (commands.Read r) = 0
listed (commands.Zero z) = 0
listed (commands.Flush f) = 0
listed (commands.Delete d) = 0
listed (commands.Status s) = 0
listed (commands.Log l) = 0
listed (commands.SetFdp s) = 0
listed (commands.GetFdp g) = 0
listed (commands.Other o) = 0
