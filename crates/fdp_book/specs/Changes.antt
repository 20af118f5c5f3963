-- The changes that save what a drive is about to do.
use Rattle.std.specs.Prelude.{◌≡◌, ℕ, ◌+◌, ◌*◌, ◌<◌, ◌==◌, ◌&&◌, Bool, false, IsFalse, IsTrue, List, [], ◌∷◌, None, if◌then◌else◌, length, map, nat_lt, slice_index, slice_index_or, unwrap_or}
use Rattle.std.specs.List.{list_any}
use Rattle.fdp_base.specs.declared.command.Command.{Command}
use Rattle.fdp_base.specs.declared.command.Command.TheVariants as commands
use Rattle.fdp_base.specs.declared.command.Create.{Create}
use Rattle.fdp_base.specs.declared.command.HandleUpdate.{HandleUpdate}
use Rattle.fdp_base.specs.declared.command.SetEvents.{SetEvents}
use Rattle.fdp_base.specs.declared.command.Write.{Write}
use Rattle.fdp_base.specs.declared.command.Zero.{Zero}
use Rattle.fdp_base.specs.declared.config.DriveConfig.{DriveConfig}
use Rattle.fdp_base.specs.declared.event.EventKind.{EventKind}
use Rattle.fdp_base.specs.declared.entry.Entry.{Entry}
use Rattle.fdp_base.specs.declared.entry.Spot.{Spot}
use Rattle.fdp_base.specs.CommandKinds.{IsWellFormed, is_saved, is_write}
use Rattle.fdp_base.specs.EventCodes.{kind_code}
use Rattle.fdp_base.specs.Placement.{geometry_of}
use Rattle.fdp_book.specs.Book.{BookSeen, point_in}
use Rattle.fdp_flash.specs.Layout.{page_number}
use Rattle.fdp_image.specs.CheckpointRows.{has_kind}
use Rattle.fdp_base.specs.declared.entry.Totals.{Totals}
use Rattle.fdp_book.specs.declared.changes.lists.CommandLists.{CommandLists}
use Rattle.fdp_readings.specs.Changes.{AreItsPages, FitsDrawn, Saves, TellsClosed, change_of_write}
use Rattle.fdp_readings.specs.Drawn.{drawn}
use Rattle.fdp_outline.specs.declared.moved_block.MovedBlock.{MovedBlock}
use Rattle.fdp_outline.specs.Events.{ListsMoved}
use Rattle.fdp_records.specs.declared.change.Change.{Change}
use Rattle.fdp_records.specs.declared.change.Change.TheVariants as changes
use Rattle.fdp_rules.specs.Effect.{References, chosen_handles, lowest_free, no_reference}
use Rattle.fdp_rules.specs.Next.{totals_with}
use Rattle.fdp_rules.specs.PlainState.{Going, PlainState}
use Rattle.fdp_rules.specs.Point.{Point}
use Rattle.fdp_rules.specs.Refusal.{refusal_of}
use Rattle.fdp_rules.specs.Room.{handles_of}

-- a command may take effect: it is not refused, and is one that is saved, other than a write
pub record CanBeSaved (b : BookSeen) (command : Command) : Type 0 where
  pub formed : IsWellFormed b.config command
  pub accepted : refusal_of b.config (point_in b) command ≡ None
  pub saved : IsTrue (is_saved command)
  pub other : IsFalse (is_write command)

-- the change is that of an update: it tells of each identifier whether it closes a unit
pub record IsUpdateOf (c : DriveConfig) (s : PlainState) (u : HandleUpdate) (change : Change) : Type 0 where
  pub closed : ℕ
  pub tells : TellsClosed c s u.nsid closed 0 s.references u.pids
  pub change_is : change ≡ changes.Update u.nsid closed u.pids

-- the change is that of a setting of events: its mask has the kinds of the types, and no bit but those of kinds
pub record IsSettingOfEvents (s : PlainState) (x : SetEvents) (change : Change) : Type 0 where
  pub mask : ℕ
  pub kinds : (kind : EventKind) → has_kind mask kind ≡ list_any (λ code. code == kind_code kind) x.types
  pub known : mask < 64
  pub change_is : change ≡ changes.SetEvents (slice_index (handles_of s x.nsid) x.handle) x.enable mask

-- the change that saves a command which takes effect in a state
abbrev pub IsChangeOf : DriveConfig → PlainState → Command → Change → Type 0
IsChangeOf c s (commands.Write w) change = Unit {0}
IsChangeOf c s (commands.Read r) change = Unit {0}
IsChangeOf c s (commands.Zero z) change = change ≡ changes.Clear z.nsid (record { slba = z.slba; length = z.count } ∷ [])
IsChangeOf c s (commands.Dealloc d) change = change ≡ changes.Clear d.nsid d.ranges
IsChangeOf c s (commands.Flush f) change = Unit {0}
IsChangeOf c s (commands.Delete d) change = change ≡ changes.Delete d.nsid
IsChangeOf c s (commands.Status status) change = Unit {0}
IsChangeOf c s (commands.Update u) change = IsUpdateOf c s u change
IsChangeOf c s (commands.Log l) change = Unit {0}
IsChangeOf c s (commands.SetFdp set) change = change ≡ changes.SetFdp set.enable set.index (s.generation + 1)
IsChangeOf c s (commands.GetFdp g) change = Unit {0}
IsChangeOf c s (commands.SetEvents set) change = IsSettingOfEvents s set change
IsChangeOf c s (commands.Create create) change =
    change ≡ changes.Create (unwrap_or (lowest_free s) 0) create.size (create.given && nat_lt 0 (length create.list)) (chosen_handles create.list)
IsChangeOf c s (commands.Other o) change = Unit {0}

-- what these handles reference, of which those that are marked were closed since a state
pub record AreMarked (c : DriveConfig) (s : PlainState) (marks : List Bool) (references : References) : Type 0 where
  pub each : (rg ruh : ℕ) → ruh < 16 → references rg ruh ≡ (if slice_index_or marks (16 * rg + ruh) false then no_reference c else s.references rg ruh)

-- what the change of a command names and the command does not list: the range of a zeroing, the handles of a create
pub record AreListsOf (command : Command) (lists : CommandLists) : Type 0 where
  pub zeroed : (zero : Zero) → command ≡ commands.Zero zero → lists.zeroed ≡ record { slba = zero.slba; length = zero.count } ∷ []
  pub handles : (create : Create) → command ≡ commands.Create create → lists.handles.items ≡ chosen_handles create.list

-- these are the numbers of the pages of a going write
pub record AreNumbersOf (b : BookSeen) (g : Going) (numbers : List ℕ) : Type 0 where
  pub spots : List Spot
  pub pages : AreItsPages (point_in b) g spots
  pub numbers_are : numbers ≡ map (page_number (geometry_of b.config)) spots

-- the change is that of the write of a ticket, with its pages
pub record IsWriteOf (b : BookSeen) (g : Going) (w : Write) (change : Change) : Type 0 where
  pub spots : List Spot
  pub pages : AreItsPages (point_in b) g spots
  pub change_is : change ≡ change_of_write b.config w g spots

-- how many blocks a change writes
abbrev pub blocks_of_change : Change → ℕ
blocks_of_change (changes.Write nsid slba pid pid_invalid pages) = length pages
blocks_of_change (changes.Clear nsid ranges) = 0
blocks_of_change (changes.Update nsid closed pids) = 0
blocks_of_change (changes.Create nsid size given handles) = 0
blocks_of_change (changes.Delete nsid) = 0
blocks_of_change (changes.SetFdp enabled index generation) = 0
blocks_of_change (changes.SetEvents ruh on mask) = 0
blocks_of_change (changes.Moved victim first second handles) = 0
blocks_of_change (changes.Shut rg ruh) = 0

-- the totals behind a change
abbrev pub totals_behind : Totals → Change → Totals
totals_behind t change = record t { position = t.position + 1; host_blocks = t.host_blocks + blocks_of_change change }

-- The change by which an entry is saved at a point: it makes of what is drawn there what is drawn behind the entry, names what there is, and has the
-- totals of the entry; of a move the blocks that it takes along are given
pub record IsChangeOfEntry (c : DriveConfig) (p : Point) (e : Entry) (change : Change) (moved : List MovedBlock) : Type 0 where
  pub saves : Saves c p change e
  pub fits : FitsDrawn c p change e
  pub totals : totals_behind p.totals change ≡ totals_with p.totals e
  pub lists : ListsMoved c (drawn c p) change moved
