-- The printed text of completions.
use Rattle.std.specs.Prelude.{ℕ, zero, suc, ◌/◌, List, [], ◌∷◌, ◌++◌, length, take, drop, codes, decimal, flat_map, bytes_eq, nat_eq, if◌then◌else◌}
use Rattle.std.specs.Int.{from_le_bytes, w32}
use Rattle.fdp_base.specs.declared.command.Command.{Command}
use Rattle.fdp_base.specs.declared.command.Command.TheVariants as commands
use Rattle.fdp_base.specs.declared.entry.Reply.{Reply}
use Rattle.fdp_base.specs.declared.entry.Entry.{Entry}
use Rattle.fdp_base.specs.CommandKinds.{word_of}
use Rattle.fdp_base.specs.Text.{hex, hex_bytes, line, status_text}
use Rattle.fdp_base.specs.Pattern.{repeated}
use Rattle.fdp_base.specs.declared.entry.Host.{Host}
use Rattle.fdp_base.specs.EntryKinds.{host_of}
use Rattle.std.specs.Option.{option_map_or}

-- bytes cut into pieces of a size, at most so many pieces, the last maybe shorter
unfoldable pub pieces_of : ℕ → ℕ → List ℕ → List (List ℕ)
pieces_of zero size bytes = []
pieces_of (suc n) size [] = []
pieces_of (suc n) size (b ∷ bs) = take size (b ∷ bs) ∷ pieces_of n size (drop size (b ∷ bs))

-- a block: the digits of its word where all its words are equal, else all its bytes
abbrev pub block_text : List ℕ → List ℕ
block_text bytes = if bytes_eq bytes (repeated (length bytes / 4) (take 4 bytes)) then hex 8 (from_le_bytes w32 (take 4 bytes)) else hex_bytes bytes

-- the line of a block
abbrev pub block_line : List ℕ → List ℕ
block_line bytes = codes "  " ++ block_text bytes ++ 10 ∷ []

-- up to 32 bytes of a log or a status
abbrev pub data_line : List ℕ → List ℕ
data_line bytes = codes "  " ++ hex_bytes bytes ++ 10 ∷ []

-- the lines of so many blocks, which have one size
abbrev pub block_lines : ℕ → List ℕ → List ℕ
block_lines count bytes = flat_map block_line (pieces_of count (length bytes / count) bytes)

-- the lines of a log or a status
abbrev pub data_lines : List ℕ → List ℕ
data_lines bytes = flat_map data_line (pieces_of (length bytes) 32 bytes)

-- the lines of the data that a command answers; only a read, a log and a status answer any
abbrev pub data_text : Command → List ℕ → List ℕ
data_text (commands.Read r) bytes = block_lines r.count bytes
data_text (commands.Status s) bytes = data_lines bytes
data_text (commands.Log l) bytes = data_lines bytes
data_text (commands.Write w) bytes = []
data_text (commands.Zero z) bytes = []
data_text (commands.Dealloc d) bytes = []
data_text (commands.Flush f) bytes = []
data_text (commands.Delete d) bytes = []
data_text (commands.Update u) bytes = []
data_text (commands.SetFdp s) bytes = []
data_text (commands.GetFdp g) bytes = []
data_text (commands.SetEvents s) bytes = []
data_text (commands.Create c) bytes = []
data_text (commands.Other o) bytes = []

-- the lines of a completion: number, word, status, dword 0, and the data of a success
abbrev pub completion : ℕ → Command → Reply → List ℕ
completion number command reply =
    line (decimal number ∷ word_of command ∷ status_text reply.status ∷ hex 8 reply.dw0 ∷ [])
    ++ data_text command reply.bytes

-- the lines of an entry in the output of a queue
abbrev pub completion_of : ℕ → Entry → List ℕ
completion_of queue e = option_map_or (λ (h : Host). if nat_eq h.queue queue then completion h.number h.command h.reply else []) (host_of e) []

-- the output of a queue: its number, and its completions in order
abbrev pub queue_text : List Entry → ℕ → List ℕ
queue_text es queue = line (codes "queue" ∷ decimal queue ∷ []) ++ flat_map (completion_of queue) es

-- the line of the statistics, in bytes
abbrev pub stats_line : ℕ → ℕ → ℕ → List ℕ
stats_line host media erased = line (codes "stats" ∷ decimal host ∷ decimal media ∷ decimal erased ∷ [])
