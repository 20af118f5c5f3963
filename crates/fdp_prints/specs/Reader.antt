-- The reader's own words: what is read of the lines of an entry, without a look at whether they are just those that are printed of it.
use Rattle.std.specs.Prelude.{ℕ, zero, suc, ◌-◌, ◌*◌, ◌/◌, ◌%◌, ◌^◌, min, Bool, false, ◌==◌, if◌then◌else◌, nat_le, List, [], ◌∷◌, ◌++◌, length, take, drop, codes, bytes_eq, Option, Some, None, Result, Ok, Err}
use Rattle.std.specs.List.{before_first, after_first}
use Rattle.std.specs.Option.{option_map_or}
use Rattle.std.specs.Int.{to_le_bytes, w32}
use Rattle.fdp_base.specs.declared.command.Command.{Command}
use Rattle.fdp_base.specs.declared.command.Command.TheVariants as commands
use Rattle.fdp_base.specs.declared.config.DriveConfig.{DriveConfig}
use Rattle.fdp_base.specs.declared.entry.BlockName.{BlockName}
use Rattle.fdp_base.specs.declared.entry.Entry.{Entry}
use Rattle.fdp_base.specs.declared.entry.Entry.TheVariants as entries
use Rattle.fdp_base.specs.declared.entry.Host.{Host}
use Rattle.fdp_base.specs.declared.entry.Spot.{Spot}
use Rattle.fdp_base.specs.declared.status.Status.{Status}
use Rattle.fdp_base.specs.EntryKinds.{host_of}
use Rattle.fdp_base.specs.Pattern.{repeated}
use Rattle.fdp_binary.specs.declared.asked.Asked.{Asked}
use Rattle.fdp_binary.specs.declared.asked.Asked.TheVariants as asks
use Rattle.fdp_binary.specs.Fields.{blocks_in, pids_in, ranges_in, types_in}
use Rattle.fdp_layouts.specs.declared.submission.Sqe.{Sqe}
use Rattle.fdp_trace.specs.declared.fault.FaultKind.{FaultKind}
use Rattle.fdp_trace.specs.declared.fault.FaultKind.TheVariants as kinds
use Rattle.fdp_trace.specs.Numbers.{value_of}
use Rattle.fdp_trace.specs.Words.{words_of}
use Rattle.fdp_trace.specs.Reader.Commands.{command_of, field_8, field_16, field_32, field_64}
use Rattle.fdp_trace.specs.Reader.FrontOf.{is_line_feed}
use Rattle.fdp_trace.specs.Reader.Reading.{◌>>=◌, field, within}
use Rattle.fdp_prints.specs.Told.{is_success}

abbrev pub Words : Type 0
Words = List (List ℕ)

-- ---- single words

-- the number that hexadecimal digits spell, or 2^64 where it is at least that
abbrev pub hex_number : List ℕ → ℕ
hex_number digits = min (2 ^ 64) (value_of 16 digits)

-- and up to a bound
unfoldable pub hex_within : ℕ → List ℕ → Result ℕ FaultKind
hex_within high digits = if nat_le (hex_number digits) high then Ok (hex_number digits) else Err kinds.Range

-- 1 or 0, and the words after it
unfoldable pub flag : Words → Result (Bool × Words) FaultKind
flag ws = field 0 1 ws >>= λ x. Ok (x.0 == 1, x.1)

-- a digit, any byte, two digits
unfoldable pub status_in : List ℕ → Result Status FaultKind
status_in word = do
  sct ← hex_within 15 (take 1 word)
  sc ← hex_within 255 (drop 2 word)
  Ok (record { sct = sct; sc = sc })

unfoldable pub status_field : Words → Result (Status × Words) FaultKind
status_field [] = Err kinds.Count
status_field (word ∷ ws) = status_in word >>= λ status. Ok (status, ws)

unfoldable pub dword_field : Words → Result (ℕ × Words) FaultKind
dword_field [] = Err kinds.Count
dword_field (word ∷ ws) = hex_within 4294967295 word >>= λ n. Ok (n, ws)

abbrev pub is_colon : ℕ → Bool
is_colon b = b == 58

-- a block by its namespace and its address, with a colon between them
unfoldable pub name_in : List ℕ → Result BlockName FaultKind
name_in word = do
  nsid ← within 0 4294967295 (before_first is_colon word)
  lba ← within 0 18446744073709551615 (after_first is_colon word)
  Ok (record { nsid = nsid; lba = lba })

unfoldable pub names_in : Words → Result (List BlockName) FaultKind
names_in [] = Ok []
names_in (word ∷ ws) = do
  name ← name_in word
  names ← names_in ws
  Ok (name ∷ names)

unfoldable pub spot_field : Words → Result (Spot × Words) FaultKind
spot_field ws = do
  unit ← field_32 ws
  page ← field_32 unit.1
  Ok (record { unit = unit.0; page = page.0 }, page.1)

-- ---- commands

abbrev pub begins_entry : Words → Bool
begins_entry [] = false
begins_entry (word ∷ ws) = bytes_eq word (codes "entry")

abbrev pub taken : Option Command → Result Command FaultKind
taken None = Err kinds.Word
taken (Some command) = Ok command

-- the command of a line of a trace; or, where an entry stands there, the one that is given for it with the data behind
unfoldable pub command_in : Option Command → Words → Result Command FaultKind
command_in given ws = if begins_entry ws then taken given else command_of ws

-- the words of the command, in the line of a completion, or of a start
unfoldable pub command_words_in : Words → Words
command_words_in [] = []
command_words_in (position ∷ []) = []
command_words_in (position ∷ word ∷ ws) = if bytes_eq word (codes "host") then drop 6 ws else drop 5 ws

-- ---- entries, without the bytes of a reply

unfoldable pub host_in : Option Command → Words → Result Entry FaultKind
host_in given ws = do
  queue ← field_8 ws
  number ← field_16 queue.1
  applied ← flag number.1
  status ← status_field applied.1
  dw0 ← dword_field status.1
  moment ← field_64 dw0.1
  command ← command_in given moment.1
  Ok (entries.Host (record {
    queue = queue.0;
    number = number.0;
    command = command;
    reply = record { status = status.0; dw0 = dw0.0; bytes = []; applied = applied.0 };
    moment = moment.0;
  }))

unfoldable pub started_in : Option Command → Words → Result Entry FaultKind
started_in given ws = do
  queue ← field_8 ws
  number ← field_16 queue.1
  rg ← field_16 number.1
  ruh ← field_8 rg.1
  pid_valid ← flag ruh.1
  command ← command_in given pid_valid.1
  Ok (entries.Started (record {
    queue = queue.0;
    number = number.0;
    command = command;
    rg = rg.0;
    ruh = ruh.0;
    pid_valid = pid_valid.0;
  }))

unfoldable pub placed_in : Words → Result Entry FaultKind
placed_in ws = do
  ticket ← field_64 ws
  index ← field_32 ticket.1
  unit ← field_32 index.1
  page ← field_32 unit.1
  Ok (entries.Placed (record { ticket = ticket.0; index = index.0; unit = unit.0; page = page.0 }))

unfoldable pub copied_in : Words → Result Entry FaultKind
copied_in ws = do
  from ← spot_field ws
  to ← spot_field from.1
  Ok (entries.Copied (record { from = from.0; to = to.0 }))

unfoldable pub moved_in : Words → Result Entry FaultKind
moved_in ws = do
  rg ← field_16 ws
  blocks ← names_in rg.1
  Ok (entries.Moved (record { rg = rg.0; blocks = blocks }))

unfoldable pub shut_in : Words → Result Entry FaultKind
shut_in ws = do
  rg ← field_16 ws
  ruh ← field_8 rg.1
  Ok (entries.Shut (record { rg = rg.0; ruh = ruh.0 }))

-- the entry of a line with these words behind its position
unfoldable pub entry_in : Option Command → Words → Result Entry FaultKind
entry_in given [] = Err kinds.Count
entry_in given (word ∷ ws) =
    if bytes_eq word (codes "host") then host_in given ws
    else (if bytes_eq word (codes "started") then started_in given ws
    else (if bytes_eq word (codes "placed") then placed_in ws
    else (if bytes_eq word (codes "copied") then copied_in ws
    else (if bytes_eq word (codes "moved") then moved_in ws
    else (if bytes_eq word (codes "erased") then (field_32 ws >>= λ unit. Ok (entries.Erased (record { unit = unit.0 })))
    else (if bytes_eq word (codes "retired") then (field_32 ws >>= λ unit. Ok (entries.Retired (record { unit = unit.0 })))
    else (if bytes_eq word (codes "aside") then (field_32 ws >>= λ unit. Ok (entries.Aside (record { unit = unit.0 })))
    else (if bytes_eq word (codes "shut") then shut_in ws
    else (if bytes_eq word (codes "worn") then (field_16 ws >>= λ rg. Ok (entries.Worn (record { rg = rg.0 })))
    else (if bytes_eq word (codes "reopened") then Ok entries.Reopened
    else Err kinds.Word))))))))))

-- the position of a line with these words, and its entry
unfoldable pub placed_entry : Option Command → Words → Result (ℕ × Entry) FaultKind
placed_entry given ws = do
  position ← field_64 ws
  entry ← entry_in given position.1
  Ok (position.0, entry)

-- ---- the bytes of a reply, from the lines behind

-- so many bytes, from two digits each
unfoldable pub bytes_in : ℕ → List ℕ → List ℕ
bytes_in zero digits = []
bytes_in (suc size) digits = hex_number (take 2 digits) % 256 ∷ bytes_in size (drop 2 digits)

-- a block of so many bytes: one word over and over where there are eight digits, else two digits a byte
unfoldable pub block_in : ℕ → List ℕ → List ℕ
block_in size digits = if length digits == 8 then repeated (size / 4) (to_le_bytes w32 (hex_number digits % 2 ^ 32)) else bytes_in size digits

-- the bytes of a line behind two blanks
abbrev pub piece_in : (ℕ → List ℕ → List ℕ) → ℕ → List ℕ → List ℕ
piece_in piece size line = piece size (drop 2 line)

-- so many bytes, from at most so many lines of pieces that have a size, the last maybe less
unfoldable pub lines_in : (ℕ → List ℕ → List ℕ) → ℕ → ℕ → ℕ → List ℕ → List ℕ
lines_in piece size zero left text = []
lines_in piece size (suc n) zero text = []
lines_in piece size (suc n) (suc left) text =
    piece_in piece (min size (suc left)) (before_first is_line_feed text) ++ lines_in piece size n (suc left - size) (after_first is_line_feed text)

-- the data behind an entry of this kind, with blocks of so many bytes
abbrev pub data_read : ℕ → Option Asked → Sqe → List ℕ → List ℕ
data_read block None e text = []
data_read block (Some asks.Write) e text = lines_in block_in block (blocks_in e) (blocks_in e * block) text
data_read block (Some asks.Read) e text = []
data_read block (Some asks.Zero) e text = []
data_read block (Some asks.Dealloc) e text = lines_in bytes_in 32 (16 * ranges_in e) (16 * ranges_in e) text
data_read block (Some asks.Flush) e text = []
data_read block (Some asks.Status) e text = []
data_read block (Some asks.Update) e text = lines_in bytes_in 32 (2 * pids_in e) (2 * pids_in e) text
data_read block (Some asks.Log) e text = []
data_read block (Some asks.SetFdp) e text = []
data_read block (Some asks.GetFdp) e text = []
data_read block (Some asks.SetEvents) e text = lines_in bytes_in 32 (types_in e) (types_in e) text
data_read block (Some asks.Create) e text = []
data_read block (Some asks.Delete) e text = []

-- the bytes that a command answers where it succeeds
abbrev pub success_in : DriveConfig → Command → List ℕ → List ℕ
success_in c (commands.Write w) text = []
success_in c (commands.Read r) text = lines_in block_in c.block r.count (r.count * c.block) text
success_in c (commands.Zero z) text = []
success_in c (commands.Dealloc d) text = []
success_in c (commands.Flush f) text = []
success_in c (commands.Delete d) text = []
success_in c (commands.Status s) text = lines_in bytes_in 32 (4 * s.dwords) (4 * s.dwords) text
success_in c (commands.Update u) text = []
success_in c (commands.Log l) text = lines_in bytes_in 32 (4 * l.dwords) (4 * l.dwords) text
success_in c (commands.SetFdp s) text = []
success_in c (commands.GetFdp g) text = []
success_in c (commands.SetEvents s) text = []
success_in c (commands.Create create) text = []
success_in c (commands.Other o) text = []

abbrev pub reply_in : DriveConfig → Command → Status → List ℕ → List ℕ
reply_in c command status text = if is_success status then success_in c command text else []

-- an entry with these bytes for its reply's
abbrev pub with_bytes : List ℕ → Entry → Entry
with_bytes bytes (entries.Host h) = entries.Host (record h { reply = record h.reply { bytes = bytes } })
with_bytes bytes (entries.Started s) = entries.Started s
with_bytes bytes (entries.Placed p) = entries.Placed p
with_bytes bytes (entries.Copied x) = entries.Copied x
with_bytes bytes (entries.Moved m) = entries.Moved m
with_bytes bytes (entries.Erased e) = entries.Erased e
with_bytes bytes (entries.Retired r) = entries.Retired r
with_bytes bytes (entries.Aside a) = entries.Aside a
with_bytes bytes (entries.Shut s) = entries.Shut s
with_bytes bytes (entries.Worn w) = entries.Worn w
with_bytes bytes entries.Reopened = entries.Reopened

-- the bytes that the lines behind an entry's line tell of its reply
abbrev pub told_bytes : DriveConfig → Entry → List ℕ → List ℕ
told_bytes c e text = option_map_or (λ (h : Host). reply_in c h.command h.reply.status text) (host_of e) []

-- the entry with which a text begins, and its position; this command is given for it where no line says its command
unfoldable pub first_entry : Option Command → DriveConfig → List ℕ → Result (ℕ × Entry) FaultKind
first_entry given c text =
    placed_entry given (words_of (before_first is_line_feed text)) >>= λ x. Ok (x.0, with_bytes (told_bytes c x.1 (after_first is_line_feed text)) x.1)
