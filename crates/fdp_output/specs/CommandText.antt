-- A command in a printed history: the line of a trace that spells it, with single spaces and decimal numbers; or, where none does, its entry in a
-- submission queue.
use Rattle.std.specs.Prelude.{ℕ, Bool, true, false, not, ◌==◌, ◌&&◌, ◌||◌, nat_le, if◌then◌else◌, List, [], ◌∷◌, length, map, flat_map, codes, decimal}
use Rattle.fdp_base.specs.declared.command.Command.{Command}
use Rattle.fdp_base.specs.declared.command.Command.TheVariants as commands
use Rattle.fdp_base.specs.declared.command.Range.{Range}
use Rattle.fdp_base.specs.Codes.{directive_code, is_placement, receive_code, send_code}
use Rattle.fdp_base.specs.declared.codes.Directive.TheVariants as directives
use Rattle.fdp_base.specs.declared.codes.ReceiveOperation.TheVariants as receives
use Rattle.fdp_base.specs.declared.codes.SendOperation.TheVariants as sends
use Rattle.fdp_base.specs.declared.payload.Payload.{Payload}
use Rattle.fdp_base.specs.declared.payload.Payload.TheVariants.{Pattern, Bytes}
use Rattle.fdp_base.specs.CommandKinds.{word_of}
use Rattle.fdp_base.specs.EventCodes.{bit}
use Rattle.fdp_base.specs.Text.{hex_bytes, spaced}
use Rattle.fdp_queues.specs.declared.work.Work.{Work}
use Rattle.fdp_queues.specs.Entry.{entry_bytes, work_of}

-- ---- which commands some line of a trace spells, for numbers within their types

-- a count from the least to the most that a line takes
abbrev pub is_count : ℕ → ℕ → ℕ → Bool
is_count least most count = nat_le least count && nat_le count most

-- 1 to 65,536 blocks or dwords
abbrev pub is_amount : ℕ → Bool
is_amount n = is_count 1 65536 n

-- a pattern has a seed; no line spells bytes
abbrev pub is_pattern : Payload → Bool
is_pattern (Pattern seed) = true
is_pattern (Bytes bytes) = false

-- no directive, or a placement identifier
abbrev pub is_directive : ℕ → ℕ → Bool
is_directive dtype dspec = (dtype == directive_code directives.Absent && dspec == 0) || is_placement dtype

-- a list of handles is given just where it is not empty
abbrev pub is_given : Bool → List ℕ → Bool
is_given given handles = if given then not (length handles == 0) else length handles == 0

-- some line of a trace spells the command
abbrev pub is_spelled : Command → Bool
is_spelled (commands.Write w) = is_amount w.count && is_pattern w.payload && is_directive w.dtype w.dspec
is_spelled (commands.Read r) = is_amount r.count
is_spelled (commands.Zero z) = is_amount z.count
is_spelled (commands.Dealloc d) = d.deallocate && is_count 1 256 (length d.ranges)
is_spelled (commands.Flush f) = true
is_spelled (commands.Delete d) = true
is_spelled (commands.Status s) = s.mo == receive_code receives.HandleStatus && is_amount s.dwords
is_spelled (commands.Update u) = u.mo == send_code sends.HandleUpdate && is_count 1 256 (length u.pids)
is_spelled (commands.Log l) = l.group == 1 && nat_le l.lsp 1 && is_amount l.dwords
is_spelled (commands.SetFdp s) = s.group == 1
is_spelled (commands.GetFdp g) = g.group == 1
is_spelled (commands.SetEvents s) = is_count 1 6 (length s.types)
is_spelled (commands.Create c) = is_given c.given c.list && nat_le (length c.list) 32
is_spelled (commands.Other o) = false

-- ---- the line

-- the seed of a pattern
abbrev pub payload_word : Payload → List ℕ
payload_word (Pattern seed) = decimal seed
payload_word (Bytes bytes) = []

abbrev pub directive_words : ℕ → ℕ → List (List ℕ)
directive_words dtype dspec = if dtype == directive_code directives.Absent then [] else codes "pid" ∷ decimal dspec ∷ []

abbrev pub range_words : Range → List (List ℕ)
range_words r = decimal r.slba ∷ decimal r.length ∷ []

abbrev pub on_word : Bool → List ℕ
on_word enable = if enable then codes "on" else codes "off"

-- host with the lowest bit of LSP set
abbrev pub class_words : ℕ → List (List ℕ)
class_words lsp = if lsp == 0 then [] else codes "host" ∷ []

-- the words behind the first, of a command that is spelled
abbrev pub argument_words : Command → List (List ℕ)
argument_words (commands.Write w) = decimal w.nsid ∷ decimal w.slba ∷ decimal w.count ∷ payload_word w.payload ∷ directive_words w.dtype w.dspec
argument_words (commands.Read r) = decimal r.nsid ∷ decimal r.slba ∷ decimal r.count ∷ []
argument_words (commands.Zero z) = decimal z.nsid ∷ decimal z.slba ∷ decimal z.count ∷ []
argument_words (commands.Dealloc d) = decimal d.nsid ∷ flat_map range_words d.ranges
argument_words (commands.Flush f) = decimal f.nsid ∷ []
argument_words (commands.Delete d) = decimal d.nsid ∷ []
argument_words (commands.Status s) = decimal s.nsid ∷ decimal s.dwords ∷ []
argument_words (commands.Update u) = decimal u.nsid ∷ map decimal u.pids
argument_words (commands.Log l) = decimal l.lid ∷ decimal l.offset ∷ decimal l.dwords ∷ class_words l.lsp
argument_words (commands.SetFdp s) = on_word s.enable ∷ decimal s.index ∷ []
argument_words (commands.GetFdp g) = []
argument_words (commands.SetEvents s) = decimal s.nsid ∷ decimal s.handle ∷ on_word s.enable ∷ map decimal s.types
argument_words (commands.Create c) = decimal c.size ∷ map decimal c.list
argument_words (commands.Other o) = []

-- the words of a command that is spelled
abbrev pub line_words : Command → List (List ℕ)
line_words command = word_of command ∷ argument_words command

-- ---- the entry

-- 1 for the admin queue, and the digits of the entry with command identifier 0
abbrev pub work_words : Work → List (List ℕ)
work_words work = codes "entry" ∷ decimal (bit work.admin) ∷ hex_bytes (entry_bytes work.sqe) ∷ []

-- ---- either

abbrev pub command_words : Command → List (List ℕ)
command_words command = if is_spelled command then line_words command else work_words (work_of command 0)

-- a command in a history, without the end of its line
abbrev pub command_text : Command → List ℕ
command_text command = spaced (command_words command)
