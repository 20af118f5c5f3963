-- Which entry may follow a history: the rules of the drive, one for each kind of entry.
use Rattle.std.specs.Prelude.{◌≡◌, ◌≢◌, ◌⊎◌, ℕ, ◌+◌, ◌*◌, ◌<◌, Bool, true, false, IsTrue, IsFalse, List, Some, None, Contains, IfSome, IsSome, MatchBool, MatchOption, option_map, slice_index}
use Rattle.std.specs.Option.{option_map_or}
use Rattle.fdp_base.specs.declared.command.Command.{Command}
use Rattle.fdp_base.specs.declared.config.DriveConfig.{DriveConfig}
use Rattle.fdp_base.specs.declared.entry.BlockName.{BlockName}
use Rattle.fdp_base.specs.declared.entry.Entry.{Entry}
use Rattle.fdp_base.specs.declared.entry.Entry.TheVariants as entries
use Rattle.fdp_base.specs.declared.entry.Reply.{Reply}
use Rattle.fdp_base.specs.declared.entry.Spot.{Spot}
use Rattle.fdp_base.specs.declared.status.Status.{Status}
use Rattle.fdp_base.specs.declared.status.TheConstants.Status as statuses
use Rattle.fdp_rules.specs.Answer.{IsSuccess, bare}
use Rattle.fdp_base.specs.CommandKinds.{IsWellFormed, blocks_written, is_read, is_saved, is_write, nsid_of, pid_of, write_of}
use Rattle.fdp_base.specs.Geometry.{IsWithin}
use Rattle.fdp_rules.specs.History.{Found, point_of}
use Rattle.fdp_rules.specs.PlainState.{Going, PageName.written, PlainState, Reference}
use Rattle.fdp_rules.specs.Point.{Point, Trail}
use Rattle.fdp_rules.specs.Refusal.{refusal_of}
use Rattle.fdp_rules.specs.Room.{handles_in_force, handles_of, is_over_budget, roomiest}
use Rattle.fdp_rules.specs.Sites.{group_of, is_there, moved_blocks, site_of}
use Rattle.fdp_rules.specs.Target.{Target, target_of}
use Rattle.fdp_base.specs.declared.command.Write.{Write}

abbrev pub IsQueue : DriveConfig → ℕ → Type 0
IsQueue c queue = IsWithin 1 c.queues queue

abbrev pub IsDataUnit : DriveConfig → ℕ → Type 0
IsDataUnit c unit = unit < c.groups * c.units

abbrev pub IsPage : DriveConfig → Spot → Type 0
IsPage c spot = IsDataUnit c spot.unit × (spot.page < c.unit_pages)

-- no handle references a unit
abbrev pub IsUnreferenced : PlainState → ℕ → Type 0
IsUnreferenced s unit = (rg ruh : ℕ) → (s.references rg ruh).unit ≢ Some unit

-- no earlier media error of this run carries this moment
abbrev pub IsNewMoment : PlainState → ℕ → Type 0
IsNewMoment s moment = Contains s.media moment → ⊥

-- where a write goes, with this group as the one that has most room
abbrev pub goes_to : DriveConfig → PlainState → ℕ → Write → Target
goes_to c s rg w = target_of c s rg w.nsid (pid_of w)

-- a going write goes where it was started for, with the group that had most room then
abbrev pub IsOnTarget : DriveConfig → PlainState → Going → Type 0
IsOnTarget c s g = option_map (goes_to c s g.roomiest) (write_of g.command) ≡ Some (record { rg = g.rg; ruh = g.ruh; valid = g.pid_valid })

-- a going write exceeds the budget of its group
abbrev pub exceeds_budget : DriveConfig → PlainState → Going → Bool
exceeds_budget c s g = option_map_or (λ (w : Write). is_over_budget c s g.rg w.nsid w.slba w.count) (write_of g.command) false

-- each page of a going write has a site: none was erased
abbrev pub HasEachPage : Trail → Going → Type 0
HasEachPage t g = (index : ℕ) → index < blocks_written g.command → IsSome (t.site (written g.ticket index))

-- a write is going in a queue, with this number and this command
pub record IsGoing (s : PlainState) (queue number : ℕ) (command : Command) (g : Going) : Type 0 where
  pub going : s.going queue ≡ Some g
  pub same_number : g.number ≡ number
  pub same_command : g.command ≡ command

-- a going write may succeed: its namespace is there, its blocks fit, its pages are placed and stand somewhere, and it goes
-- where it was started for
pub record MaySucceed (c : DriveConfig) (p : Point) (g : Going) : Type 0 where
  pub there : IsTrue (is_there p.state g)
  pub fits : IsFalse (exceeds_budget c p.state g)
  pub placed : g.placed ≡ blocks_written g.command
  pub pages : HasEachPage p.trail g
  pub target : IsOnTarget c p.state g

-- a refusal of a command, which changes nothing
abbrev pub IsRefused : DriveConfig → Point → Command → Reply → Type 0
IsRefused c p command reply = (status : Status) × (refusal_of c p command ≡ Some status) × (reply ≡ bare status false)

-- Write Fault: the change was not made, or it was and its saving failed
abbrev pub IsWriteFault : Reply → Type 0
IsWriteFault reply = (reply ≡ bare statuses.WRITE_FAULT false) ⊎ (reply ≡ bare statuses.WRITE_FAULT true)

-- the end of a going write: its namespace is gone; it exceeds the budget of its group; it succeeds, or fails in its place;
-- or it fails before all its pages are placed
abbrev pub IsEnd : Bool → DriveConfig → Point → Going → Reply → ℕ → Type 0
IsEnd told c p g reply moment =
    (IsFalse (is_there p.state g) × (reply ≡ bare statuses.INVALID_NAMESPACE false))
    ⊎ (IsTrue (is_there p.state g) × IsTrue (exceeds_budget c p.state g) × (reply ≡ bare statuses.CAPACITY_EXCEEDED false))
    ⊎ (MaySucceed c p g × IsSuccess told c p g.command reply)
    ⊎ (MaySucceed c p g × IsNewMoment p.state moment × IsWriteFault reply)
    ⊎ (IsTrue (is_there p.state g) × (g.placed < blocks_written g.command) × IsNewMoment p.state moment × (reply ≡ bare statuses.WRITE_FAULT false))

-- the answer to a write: the end of the one that is going, or a refusal of another
abbrev pub IsWriteReply : Bool → DriveConfig → Point → ℕ → ℕ → Command → Reply → ℕ → Type 0
IsWriteReply told c p queue number command reply moment =
    ((g : Going) × IsGoing p.state queue number command g × IsEnd told c p g reply moment)
    ⊎ (((g : Going) → IsGoing p.state queue number command g → ⊥) × IsRefused c p command reply)

-- a media error in place of a success: of a read, or of a command that is saved
abbrev pub IsMediaError : Command → Reply → Type 0
IsMediaError command reply =
    (IsTrue (is_read command) × (reply ≡ bare statuses.UNRECOVERED_READ_ERROR false))
    ⊎ (IsTrue (is_saved command) × IsWriteFault reply)

-- the answer to another command: a refusal, a success, or a media error
abbrev pub IsPlainReply : Bool → DriveConfig → Point → Command → Reply → ℕ → Type 0
IsPlainReply told c p command reply moment =
    IsRefused c p command reply
    ⊎ ((refusal_of c p command ≡ None) × IsSuccess told c p command reply)
    ⊎ ((refusal_of c p command ≡ None) × IsNewMoment p.state moment × IsMediaError command reply)

-- a command was completed
pub record IsHost (told : Bool) (c : DriveConfig) (p : Point) (queue number : ℕ) (command : Command) (reply : Reply) (moment : ℕ) : Type 0 where
  pub queue_is : IsQueue c queue
  pub formed : IsWellFormed c command
  pub replied : MatchBool (is_write command) (IsWriteReply told c p queue number command reply moment) (IsPlainReply told c p command reply moment)

-- a write is let go that is not refused: with a valid identifier to a handle of its namespace, else to its first handle in
-- the group that has most room
pub record IsStarted (c : DriveConfig) (p : Point) (queue : ℕ) (command : Command) (rg ruh : ℕ) (pid_valid : Bool) : Type 0 where
  pub queue_is : IsQueue c queue
  pub formed : IsWellFormed c command
  pub write : IsTrue (is_write command)
  pub accepted : refusal_of c p command ≡ None
  pub group : rg < c.groups
  pub handle : ruh < handles_in_force c p.state
  pub listed : IsTrue pid_valid → Contains (handles_of p.state (nsid_of command)) ruh
  pub default : IsFalse pid_valid → (rg ≡ roomiest c p.state) × (ruh ≡ slice_index (handles_of p.state (nsid_of command)) 0)

-- where the next page of a handle goes: on in its unit; or, where it has none, to the start of one that no handle references
abbrev pub IsNextPage : DriveConfig → PlainState → Reference → ℕ → ℕ → Type 0
IsNextPage c s x unit page = MatchOption x.unit (IsUnreferenced s unit × (page ≡ 0)) (λ (u : ℕ). (unit ≡ u) × (page + x.left ≡ c.unit_pages))

-- the next page of a going write was programmed, as the next page of its handle
pub record IsPlaced (c : DriveConfig) (p : Point) (ticket index unit page : ℕ) : Type 0 where
  pub queue : ℕ
  pub going : Going
  pub queue_is : IsQueue c queue
  pub going_is : p.state.going queue ≡ Some going
  pub same : going.ticket ≡ ticket
  pub there : IsTrue (is_there p.state going)
  pub next : index ≡ going.placed
  pub asked : index < blocks_written going.command
  pub spot : IsPage c (record { unit = unit; page = page })
  pub group : group_of c unit ≡ going.rg
  pub kept : IsFalse (p.state.is_lost unit)
  pub place : IsNextPage c p.state (p.state.references going.rg going.ruh) unit page

-- a page was copied between two units of one group that no handle references
pub record IsCopied (c : DriveConfig) (p : Point) (old new : Spot) : Type 0 where
  pub from : IsPage c old
  pub to : IsPage c new
  pub apart : old.unit ≢ new.unit
  pub group : group_of c old.unit ≡ group_of c new.unit
  pub from_unreferenced : IsUnreferenced p.state old.unit
  pub to_unreferenced : IsUnreferenced p.state new.unit

-- the pass of a group was moved: the entry lists just the blocks that stood at its old pages
pub record IsMoved (c : DriveConfig) (p : Point) (rg : ℕ) (blocks : List BlockName) : Type 0 where
  pub group : rg < c.groups
  pub listed : blocks ≡ moved_blocks p rg

-- a unit is erased, or was to be: no handle references it, it is not lost, and no block stands in it
pub record IsErasable (c : DriveConfig) (p : Point) (unit : ℕ) : Type 0 where
  pub data_unit : IsDataUnit c unit
  pub unreferenced : IsUnreferenced p.state unit
  pub kept : IsFalse (p.state.is_lost unit)
  pub empty : (nsid lba : ℕ) → IfSome (site_of p nsid lba) (λ (spot : Spot). spot.unit ≢ unit)

-- a unit is set aside that no handle references
pub record IsAside (c : DriveConfig) (p : Point) (unit : ℕ) : Type 0 where
  pub data_unit : IsDataUnit c unit
  pub unreferenced : IsUnreferenced p.state unit

-- a handle of a group
pub record IsHandle (c : DriveConfig) (p : Point) (rg ruh : ℕ) : Type 0 where
  pub group : rg < c.groups
  pub handle : ruh < handles_in_force c p.state

-- an entry may follow what stands; `told` says whether the flash tells what it holds
unfoldable pub Follows : Bool → DriveConfig → Point → Entry → Type 0
Follows told c p (entries.Host h) = IsHost told c p h.queue h.number h.command h.reply h.moment
Follows told c p (entries.Started s) = IsStarted c p s.queue s.command s.rg s.ruh s.pid_valid
Follows told c p (entries.Placed placed) = IsPlaced c p placed.ticket placed.index placed.unit placed.page
Follows told c p (entries.Copied copied) = IsCopied c p copied.from copied.to
Follows told c p (entries.Moved m) = IsMoved c p m.rg m.blocks
Follows told c p (entries.Erased e) = IsErasable c p e.unit
Follows told c p (entries.Retired r) = IsErasable c p r.unit
Follows told c p (entries.Aside a) = IsAside c p a.unit
Follows told c p (entries.Shut s) = IsHandle c p s.rg s.ruh
Follows told c p (entries.Worn w) = w.rg < c.groups
Follows told c p entries.Reopened = IsTrue p.is_opening

-- an entry may follow the entries before it, in a run that began with what was found
abbrev pub IsStep : Bool → DriveConfig → Found → List Entry → Entry → Type 0
IsStep told c f before e = Follows told c (point_of c f before) e
