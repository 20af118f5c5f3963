-- What the change of a command stands on: the rows that it changes are there, and what needs memory was made.
use Rattle.std.specs.Prelude.{◌≡◌, ℕ, ◌+◌, ◌*◌, ◌^◌, ◌<◌, ◌≤◌, Bool, true, Some, None, List, Option, length, slice_index, IfSome}
use Rattle.fdp_base.specs.declared.command.Command.{Command}
use Rattle.fdp_base.specs.declared.command.Command.TheVariants as commands
use Rattle.std.specs.Option.{IsSomeAnd}
use Rattle.std.specs.Vec.{vec_capacity, vec_len}
use Rattle.fdp_base.specs.declared.entry.Entry.{Entry}
use Rattle.fdp_base.specs.declared.entry.Entry.TheVariants as entries
use Rattle.fdp_base.specs.declared.entry.Reply.{Reply}
use Rattle.fdp_rules.specs.Change.{going_with, started}
use Rattle.fdp_rules.specs.Sites.{group_of}
use Rattle.fdp_plain_effects.specs.Going.{HasRoomFor, IsHandlePlace}
use Rattle.fdp_tables.specs.declared.state.KeptGoing.{KeptGoing}
use Rattle.fdp_base.specs.declared.payload.Payload.{Payload}
use Rattle.fdp_rules.specs.Effect.{created, lowest_free}
use Rattle.fdp_rules.specs.PlainState.{Going}
use Rattle.fdp_rules.specs.Room.{handles_of, size_of}
use Rattle.fdp_tables.specs.declared.state.Kept.{Kept}
use Rattle.fdp_tables.specs.declared.state.KeptBlock.{KeptBlock}
use Rattle.fdp_tables.specs.declared.state.Space.{Space}
use Rattle.fdp_tables.specs.Spaces.{AreMade}
use Rattle.fdp_tables.specs.State.{going_of, namespace_of, plain_of, row}

-- the blocks of the write that is going in a queue were made, and its namespace has their places
pub record IsWriteReady (k : Kept) (queue nsid slba count : ℕ) (payload : Payload) (blocks : List (Option KeptBlock)) : Type 0 where
  pub there : nsid < length k.spaces.items
  pub fits : slba + count ≤ size_of (plain_of k) nsid
  pub going : Going
  pub going_is : (plain_of k).going queue ≡ Some going
  pub made : AreMade k.config.block payload going count blocks

-- a namespace without blocks was made for the lowest free identifier
pub record HasSpace (k : Kept) (space : Option Space) : Type 0 where
  pub nsid : ℕ
  pub nsid_is : lowest_free (plain_of k) ≡ Some nsid
  pub place : nsid < length k.spaces.items
  pub made : Space
  pub made_is : space ≡ Some made
  pub empty : (lba : ℕ) → row made.blocks lba ≡ None

-- the namespace that was made is the one that is to be created
abbrev pub IsAsAsked : Kept → ℕ → Bool → List ℕ → Option Space → Type 0
IsAsAsked k size given list space = IfSome space (λ x. namespace_of x ≡ created (plain_of k) size given list)

-- a placement handle of a namespace leads to a handle whose events may be kept
pub record IsHandleReady (k : Kept) (nsid handle : ℕ) : Type 0 where
  pub listed : handle < length (handles_of (plain_of k) nsid)
  pub row : slice_index (handles_of (plain_of k) nsid) handle < length k.reports.items

abbrev pub IsReady : Kept → ℕ → Command → List (Option KeptBlock) → Option Space → Type 0
IsReady k queue (commands.Write w) blocks space = IsWriteReady k queue w.nsid w.slba w.count w.payload blocks
IsReady k queue (commands.Read r) blocks space = Unit {0}
IsReady k queue (commands.Zero z) blocks space = Unit {0}
IsReady k queue (commands.Dealloc d) blocks space = Unit {0}
IsReady k queue (commands.Flush f) blocks space = Unit {0}
IsReady k queue (commands.Delete d) blocks space = d.nsid < length k.spaces.items
IsReady k queue (commands.Status s) blocks space = Unit {0}
IsReady k queue (commands.Update u) blocks space = Unit {0}
IsReady k queue (commands.Log l) blocks space = Unit {0}
IsReady k queue (commands.SetFdp s) blocks space = k.generation + 1 < 2 ^ 64
IsReady k queue (commands.GetFdp g) blocks space = Unit {0}
IsReady k queue (commands.SetEvents s) blocks space = IsHandleReady k s.nsid s.handle
IsReady k queue (commands.Create c) blocks space = HasSpace k space × IsAsAsked k c.size c.given c.list space
IsReady k queue (commands.Other o) blocks space = Unit {0}

-- the write that was made is the one that a Started entry lets go
abbrev pub IsStartReady : Kept → ℕ → ℕ → Command → ℕ → ℕ → Bool → Option KeptGoing → Type 0
IsStartReady k queue number command rg ruh pid_valid going = (queue < length k.going.items) × IsSomeAnd going (λ g. going_of g ≡ started k.config (plain_of k) number command rg ruh pid_valid)

-- the handle of the write with this ticket has a place, and a page more of it can be counted
pub record IsPlaceReady (k : Kept) (ticket : ℕ) : Type 0 where
  pub place : IfSome (going_with k.config (plain_of k) ticket) (IsHandlePlace k)
  pub room : (queue : ℕ) → HasRoomFor ticket (row k.going.items queue)

-- the queue of a completed command has its row, its change can be made, and there is memory for the moment of an error
pub record IsHostReady (k : Kept) (queue : ℕ) (command : Command) (reply : Reply) (blocks : List (Option KeptBlock)) (space : Option Space) : Type 0 where
  pub queue_is : queue < length k.going.items
  pub effect : reply.applied ≡ true → IsReady k queue command blocks space
  pub moments : vec_len k.media < vec_capacity k.media

-- what an entry changes has its rows, and what needs memory was made
abbrev pub IsChangeReady : Kept → Entry → List (Option KeptBlock) → Option Space → Option KeptGoing → Type 0
IsChangeReady k (entries.Host h) blocks space going = IsHostReady k h.queue h.command h.reply blocks space
IsChangeReady k (entries.Started s) blocks space going = IsStartReady k s.queue s.number s.command s.rg s.ruh s.pid_valid going
IsChangeReady k (entries.Placed p) blocks space going = IsPlaceReady k p.ticket
IsChangeReady k (entries.Copied c) blocks space going = Unit {0}
IsChangeReady k (entries.Moved m) blocks space going = Unit {0}
IsChangeReady k (entries.Erased e) blocks space going = (0 < k.config.units) × (group_of k.config e.unit < length k.worn.items)
IsChangeReady k (entries.Retired r) blocks space going = r.unit < length k.lost.items
IsChangeReady k (entries.Aside a) blocks space going = a.unit < length k.lost.items
IsChangeReady k (entries.Shut s) blocks space going = (s.ruh < 16) × (16 * s.rg + s.ruh < length k.references.items)
IsChangeReady k (entries.Worn w) blocks space going = w.rg < length k.worn.items
IsChangeReady k entries.Reopened blocks space going = Unit {0}
