-- What kind of command it is.
use Rattle.std.specs.Prelude.{◌≡◌, ℕ, ◌*◌, ◌≤◌, Bool, true, false, IsFalse, [], length, codes, List, Option, Some, None, is_some, if◌then◌else◌}
use Rattle.std.specs.Option.{option_map_or}
use Rattle.fdp_base.specs.declared.command.Command.{Command}
use Rattle.fdp_base.specs.declared.command.Command.TheVariants as commands
use Rattle.fdp_base.specs.declared.command.Read.{Read}
use Rattle.fdp_base.specs.declared.command.Write.{Write}
use Rattle.fdp_base.specs.declared.config.DriveConfig.{DriveConfig}
use Rattle.fdp_base.specs.declared.payload.Payload.{Payload}
use Rattle.fdp_base.specs.declared.payload.Payload.TheVariants as payloads
use Rattle.fdp_base.specs.declared.limits.TheConstants.{MOST_ENTRY_BLOCKS, MOST_ENTRY_EVENT_TYPES, MOST_ENTRY_PIDS, MOST_ENTRY_RANGES}
use Rattle.fdp_base.specs.Codes.{is_placement}
use Rattle.fdp_base.specs.Geometry.{IsWithin}

-- the placement identifier of a write, under the directive type of Data Placement
abbrev pub directed_by : ℕ → ℕ → Option ℕ
directed_by dtype dspec = if is_placement dtype then Some dspec else None

abbrev pub pid_of : Write → Option ℕ
pid_of w = directed_by w.dtype w.dspec

-- a command as a write, if it is one
abbrev pub write_of : Command → Option Write
write_of (commands.Write w) = Some w
write_of (commands.Read r) = None
write_of (commands.Zero z) = None
write_of (commands.Dealloc d) = None
write_of (commands.Flush f) = None
write_of (commands.Delete d) = None
write_of (commands.Status s) = None
write_of (commands.Update u) = None
write_of (commands.Log l) = None
write_of (commands.SetFdp s) = None
write_of (commands.GetFdp g) = None
write_of (commands.SetEvents s) = None
write_of (commands.Create c) = None
write_of (commands.Other o) = None

abbrev pub is_write : Command → Bool
is_write command = is_some (write_of command)

-- a command as a read, if it is one
abbrev pub read_of : Command → Option Read
read_of (commands.Write w) = None
read_of (commands.Read r) = Some r
read_of (commands.Zero z) = None
read_of (commands.Dealloc d) = None
read_of (commands.Flush f) = None
read_of (commands.Delete d) = None
read_of (commands.Status s) = None
read_of (commands.Update u) = None
read_of (commands.Log l) = None
read_of (commands.SetFdp s) = None
read_of (commands.GetFdp g) = None
read_of (commands.SetEvents s) = None
read_of (commands.Create c) = None
read_of (commands.Other o) = None

abbrev pub is_read : Command → Bool
is_read command = is_some (read_of command)

-- how many blocks a command writes, if it is a write, and reads, if it is a read
abbrev pub blocks_written : Command → ℕ
blocks_written command = option_map_or (λ w. w.count) (write_of command) 0

abbrev pub blocks_read : Command → ℕ
blocks_read command = option_map_or (λ r. r.count) (read_of command) 0

-- a command whose change outlasts a stop: it is saved
abbrev pub is_saved : Command → Bool
is_saved (commands.Write w) = true
is_saved (commands.Read r) = false
is_saved (commands.Zero z) = true
is_saved (commands.Dealloc d) = d.deallocate
is_saved (commands.Flush f) = false
is_saved (commands.Delete d) = true
is_saved (commands.Status s) = false
is_saved (commands.Update u) = true
is_saved (commands.Log l) = false
is_saved (commands.SetFdp s) = true
is_saved (commands.GetFdp g) = false
is_saved (commands.SetEvents s) = true
is_saved (commands.Create c) = true
is_saved (commands.Other o) = false

-- the namespace that a command names, 0 where it names none
abbrev pub nsid_of : Command → ℕ
nsid_of (commands.Write w) = w.nsid
nsid_of (commands.Read r) = r.nsid
nsid_of (commands.Zero z) = z.nsid
nsid_of (commands.Dealloc d) = d.nsid
nsid_of (commands.Flush f) = f.nsid
nsid_of (commands.Delete d) = d.nsid
nsid_of (commands.Status s) = s.nsid
nsid_of (commands.Update u) = u.nsid
nsid_of (commands.Log l) = 0
nsid_of (commands.SetFdp s) = 0
nsid_of (commands.GetFdp g) = 0
nsid_of (commands.SetEvents s) = s.nsid
nsid_of (commands.Create c) = 0
nsid_of (commands.Other o) = 0

-- the bytes of a payload are those of so many blocks
abbrev pub IsPayloadOf : DriveConfig → ℕ → Payload → Type 0
IsPayloadOf c count (payloads.Pattern seed) = Unit {0}
IsPayloadOf c count (payloads.Bytes bytes) = length bytes ≡ count * c.block

-- a command that a queue entry can hold: 1 to 65,536 blocks, with the bytes of a write; 1 to 256 ranges; 1 to 65,536
-- placement identifiers; at most 255 event types; at least one dword; no list where none is given
abbrev pub IsWellFormed : DriveConfig → Command → Type 0
IsWellFormed c (commands.Write w) = IsWithin 1 MOST_ENTRY_BLOCKS w.count × IsPayloadOf c w.count w.payload
IsWellFormed c (commands.Read r) = IsWithin 1 MOST_ENTRY_BLOCKS r.count
IsWellFormed c (commands.Zero z) = IsWithin 1 MOST_ENTRY_BLOCKS z.count
IsWellFormed c (commands.Dealloc d) = IsWithin 1 MOST_ENTRY_RANGES (length d.ranges)
IsWellFormed c (commands.Flush f) = Unit {0}
IsWellFormed c (commands.Delete d) = Unit {0}
IsWellFormed c (commands.Status s) = 1 ≤ s.dwords
IsWellFormed c (commands.Update u) = IsWithin 1 MOST_ENTRY_PIDS (length u.pids)
IsWellFormed c (commands.Log l) = 1 ≤ l.dwords
IsWellFormed c (commands.SetFdp s) = Unit {0}
IsWellFormed c (commands.GetFdp g) = Unit {0}
IsWellFormed c (commands.SetEvents s) = length s.types ≤ MOST_ENTRY_EVENT_TYPES
IsWellFormed c (commands.Create create) = IsFalse create.given → create.list ≡ []
IsWellFormed c (commands.Other o) = Unit {0}

-- the word of a command in a trace; the last has none there
abbrev pub word_of : Command → List ℕ
word_of (commands.Write w) = codes "write"
word_of (commands.Read r) = codes "read"
word_of (commands.Zero z) = codes "zero"
word_of (commands.Dealloc d) = codes "dealloc"
word_of (commands.Flush f) = codes "flush"
word_of (commands.Delete d) = codes "delete"
word_of (commands.Status s) = codes "status"
word_of (commands.Update u) = codes "update"
word_of (commands.Log l) = codes "log"
word_of (commands.SetFdp s) = codes "set-fdp"
word_of (commands.GetFdp g) = codes "get-fdp"
word_of (commands.SetEvents s) = codes "set-events"
word_of (commands.Create c) = codes "create"
word_of (commands.Other o) = codes "entry"

-- a command that puts another configuration in force
abbrev pub is_setting : Command → Bool
is_setting (commands.Write w) = false
is_setting (commands.Read r) = false
is_setting (commands.Zero z) = false
is_setting (commands.Dealloc d) = false
is_setting (commands.Flush f) = false
is_setting (commands.Delete d) = false
is_setting (commands.Status s) = false
is_setting (commands.Update u) = false
is_setting (commands.Log l) = false
is_setting (commands.SetFdp s) = true
is_setting (commands.GetFdp g) = false
is_setting (commands.SetEvents s) = false
is_setting (commands.Create c) = false
is_setting (commands.Other o) = false
