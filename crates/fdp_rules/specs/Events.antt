-- The events that an entry makes, and those that are kept.
use Rattle.std.specs.Prelude.{ℕ, ◌+◌, ◌-◌, ◌==◌, Bool, true, false, List, [], ◌∷◌, ◌++◌, length, drop, nat_lt, Option, Some, None, if◌then◌else◌, filter, flat_map, map}
use Rattle.std.specs.Option.{option_map_or}
use Rattle.fdp_base.specs.declared.command.Command.{Command}
use Rattle.fdp_base.specs.declared.command.Command.TheVariants as commands
use Rattle.fdp_base.specs.declared.config.DriveConfig.{DriveConfig}
use Rattle.fdp_base.specs.declared.entry.BlockName.{BlockName}
use Rattle.fdp_base.specs.declared.entry.Entry.{Entry}
use Rattle.fdp_base.specs.declared.entry.Entry.TheVariants as entries
use Rattle.fdp_base.specs.declared.event.Event.{Event}
use Rattle.fdp_base.specs.declared.event.EventFlags.{EventFlags}
use Rattle.fdp_base.specs.declared.event.EventKind.{EventKind}
use Rattle.fdp_base.specs.declared.event.EventKind.TheVariants as kinds
use Rattle.fdp_rules.specs.Change.{after}
use Rattle.fdp_rules.specs.Effect.{References, is_partly_written, updated_by}
use Rattle.fdp_base.specs.EventCodes.{kind_code}
use Rattle.fdp_base.specs.Numbers.{numbers_below}
use Rattle.fdp_rules.specs.PlainState.{Block, Going, PlainState}
use Rattle.fdp_rules.specs.Room.{handles_in_force}
use Rattle.fdp_rules.specs.Target.{Target, named_by}

-- which fields of an event mean something: all three; namespace and location; the location alone
abbrev pub all_valid : EventFlags
all_valid = record { pid_valid = true; nsid_valid = true; location_valid = true }

abbrev pub nsid_and_location_valid : EventFlags
nsid_and_location_valid = record { pid_valid = false; nsid_valid = true; location_valid = true }

abbrev pub only_location_valid : EventFlags
only_location_valid = record { pid_valid = false; nsid_valid = false; location_valid = true }

-- an update closed a unit that was not fully written; identifier, namespace and location are valid
abbrev pub not_fully_written : PlainState → ℕ → ℕ → Target → Event
not_fully_written s nsid pid t = record {
  kind = kinds.NotFullyWritten;
  flags = all_valid;
  pid = pid;
  position = s.position + 1;
  nsid = nsid;
  moved = 0;
  lba = 0;
  rg = t.rg;
  ruh = t.ruh;
}

-- the event of an identifier of an update, where that closes a unit
abbrev pub closing_event : DriveConfig → PlainState → ℕ → References → ℕ → Option Target → List Event
closing_event c s nsid references pid None = []
closing_event c s nsid references pid (Some t) =
    if is_partly_written c (references t.rg t.ruh) then not_fully_written s nsid pid t ∷ [] else []

-- the events of an update: one for each identifier that closes a unit, in the list's order
abbrev pub update_events : DriveConfig → PlainState → ℕ → References → List ℕ → List Event
update_events c s nsid references [] = []
update_events c s nsid references (pid ∷ pids) =
    closing_event c s nsid references pid (named_by c s nsid pid)
    ++ update_events c s nsid (updated_by c s nsid references pid) pids

-- a write took effect whose identifier was invalid; the location is the one where it went
abbrev pub invalid_identifier : PlainState → ℕ → ℕ → Going → Event
invalid_identifier s nsid pid g = record {
  kind = kinds.InvalidPlacementIdentifier;
  flags = all_valid;
  pid = pid;
  position = s.position + 1;
  nsid = nsid;
  moved = 0;
  lba = 0;
  rg = g.rg;
  ruh = g.ruh;
}

abbrev pub write_events : PlainState → ℕ → ℕ → Option Going → List Event
write_events s nsid pid None = []
write_events s nsid pid (Some g) = if g.pid_valid then [] else invalid_identifier s nsid pid g ∷ []

-- the events of a command of a queue whose change is made
abbrev pub command_events : DriveConfig → PlainState → ℕ → Command → List Event
command_events c s queue (commands.Write w) = write_events s w.nsid w.dspec (s.going queue)
command_events c s queue (commands.Read r) = []
command_events c s queue (commands.Zero z) = []
command_events c s queue (commands.Dealloc d) = []
command_events c s queue (commands.Flush f) = []
command_events c s queue (commands.Delete d) = []
command_events c s queue (commands.Status status) = []
command_events c s queue (commands.Update u) = update_events c s u.nsid s.references u.pids
command_events c s queue (commands.Log l) = []
command_events c s queue (commands.SetFdp set) = []
command_events c s queue (commands.GetFdp g) = []
command_events c s queue (commands.SetEvents set) = []
command_events c s queue (commands.Create create) = []
command_events c s queue (commands.Other o) = []

-- how many blocks were moved, as an event tells it: its field has 16 bits, and stands still at their last value
abbrev pub told_moved : ℕ → ℕ
told_moved count = if nat_lt count 0x10000 then count else 0xffff

-- the moved blocks of one handle: how many, and the first of them; namespace and location are valid
abbrev pub reallocated : PlainState → ℕ → ℕ → List BlockName → List Event
reallocated s rg ruh [] = []
reallocated s rg ruh (b ∷ bs) = record {
  kind = kinds.MediaReallocated;
  flags = nsid_and_location_valid;
  pid = 0;
  position = s.position + 1;
  nsid = b.nsid;
  moved = told_moved (length (b ∷ bs));
  lba = b.lba;
  rg = rg;
  ruh = ruh;
} ∷ []

abbrev pub is_of_handle : PlainState → ℕ → BlockName → Bool
is_of_handle s ruh b = option_map_or (λ (x : Block). x.ruh == ruh) (s.blocks b.nsid b.lba) false

-- an event of a handle in a group, of which only the location is valid
abbrev pub handle_event : PlainState → EventKind → ℕ → ℕ → Event
handle_event s kind rg ruh = record {
  kind = kind;
  flags = only_location_valid;
  pid = 0;
  position = s.position + 1;
  nsid = 0;
  moved = 0;
  lba = 0;
  rg = rg;
  ruh = ruh;
}

-- the events of an entry: those of a command whose change is made; for each handle the blocks that a move moved of it; the
-- handle that a failed program left without a unit; each handle of each group at an opening
unfoldable pub events_of_entry : DriveConfig → PlainState → Entry → List Event
events_of_entry c s (entries.Host h) = if h.reply.applied then command_events c s h.queue h.command else []
events_of_entry c s (entries.Started started) = []
events_of_entry c s (entries.Placed p) = []
events_of_entry c s (entries.Copied copied) = []
events_of_entry c s (entries.Moved m) = flat_map (λ ruh. reallocated s m.rg ruh (filter (is_of_handle s ruh) m.blocks)) (numbers_below (handles_in_force c s))
events_of_entry c s (entries.Erased e) = []
events_of_entry c s (entries.Retired r) = []
events_of_entry c s (entries.Aside a) = []
events_of_entry c s (entries.Shut shut) = handle_event s kinds.ImplicitlyModified shut.rg shut.ruh ∷ []
events_of_entry c s (entries.Worn w) = []
events_of_entry c s entries.Reopened = flat_map (λ rg. map (handle_event s kinds.HandlesModified rg) (numbers_below (handles_in_force c s))) (numbers_below c.groups)

-- the events of an entry whose kind is kept for their handle when it is made
unfoldable pub kept_of_entry : DriveConfig → PlainState → Entry → List Event
kept_of_entry c s e = filter (λ (x : Event). s.reports x.ruh x.kind) (events_of_entry c s e)

-- the events kept over the entries that follow a state
unfoldable pub kept_from : DriveConfig → PlainState → List Entry → List Event
kept_from c s [] = []
kept_from c s (e ∷ es) = kept_of_entry c s e ++ kept_from c (after c s e) es

-- an event of the class that hosts ask for; the others are the controller's
abbrev pub is_host_event : Event → Bool
is_host_event e = nat_lt (kind_code e.kind) 0x80

-- the latest 32
abbrev pub latest : List Event → List Event
latest es = drop (length es - 32) es
