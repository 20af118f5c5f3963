-- What a step adds to the record of a drive, in one turn.
use Rattle.std.specs.Prelude.{◌≡◌, ◌⊎◌, ℕ, ◌+◌, ◌<◌, Bool, true, List, [], ◌∷◌, ◌++◌, length}
use Rattle.fdp_base.specs.declared.command.Command.{Command}
use Rattle.fdp_base.specs.declared.entry.Entry.{Entry}
use Rattle.fdp_base.specs.declared.entry.Entry.TheVariants as entries
use Rattle.fdp_base.specs.declared.recorded.Mark.{Mark}
use Rattle.fdp_base.specs.CommandKinds.{IsWellFormed, blocks_written, is_write}
use Rattle.fdp_base.specs.Records.{CarriesNone}
use Rattle.fdp_core.specs.fdp_book.declared.ticket.Done.{Done}
use Rattle.fdp_core.specs.fdp_book.declared.ticket.Ticket.{Ticket}
use Rattle.fdp_core.specs.fdp_book.Room.{RoomSeen, room_for}
use Rattle.fdp_core.specs.fdp_book.Stages.{IsFree}
use Rattle.fdp_core.specs.fdp_book.Tickets.{IsTicketOf}
use Rattle.fdp_core.specs.declared.answer.Begun.{Begun}
use Rattle.fdp_core.specs.declared.answer.Begun.TheVariants as begun
use Rattle.fdp_core.specs.declared.answer.Placed.{Placed}
use Rattle.fdp_core.specs.declared.answer.Placed.TheVariants as placed
use Rattle.fdp_rules.specs.PlainState.{Going}
use Rattle.fdp_rules.specs.Step.{IsQueue}
use Rattle.fdp_workers.specs.Run.{Run, position_by, state_by}

-- ---- when a step may be made

-- a command may be begun in a queue under a number, with this room
pub record MayBegin (run : Run) (es : List Entry) (queue number : ℕ) (command : Command) (room : RoomSeen) : Type 0 where
  pub queue_is : IsQueue run.config queue
  pub formed : IsWellFormed run.config command
  pub free : IsFree (state_by run es) queue number
  pub room_is : room ≡ room_for command run.config

-- the write of a ticket is going, and a page of it is still to be placed
pub record IsWaiting (run : Run) (es : List Entry) (ticket : Ticket) : Type 0 where
  pub going : Going
  pub ticket_is : IsTicketOf (state_by run es) ticket going
  pub asked : going.placed < blocks_written going.command

-- the write of a ticket is going, and all its pages are placed
pub record IsReady (run : Run) (es : List Entry) (ticket : Ticket) : Type 0 where
  pub going : Going
  pub ticket_is : IsTicketOf (state_by run es) ticket going
  pub placed : going.placed ≡ blocks_written going.command

-- the write of a ticket is going
pub record IsFlying (run : Run) (es : List Entry) (ticket : Ticket) : Type 0 where
  pub going : Going
  pub ticket_is : IsTicketOf (state_by run es) ticket going

-- ---- what it adds

-- items were added that carry no number
pub record AddsNone {I : Type 0} (mark : I → Mark) (old new : List I) : Type 0 where
  pub added : List I
  pub new_is : new ≡ old ++ added
  pub none : CarriesNone mark added

-- one item with this number was added, behind others that carry none
pub record AddsOwn {I : Type 0} (entry : I → Entry) (mark : I → Mark) (number : ℕ) (old new : List I) (e : Entry) : Type 0 where
  pub before : List I
  pub own : I
  pub new_is : new ≡ old ++ before ++ own ∷ []
  pub none : CarriesNone mark before
  pub number_is : (mark own).number ≡ number
  pub entry_is : entry own ≡ e

-- a command of a queue was completed
pub record Completes {I : Type 0} (run : Run) (entry : I → Entry) (mark : I → Mark) (old new : List I) (queue number : ℕ) (command : Command) (done : Done) : Type 0 where
  pub adds : AddsOwn entry mark queue old new (entries.Host (record { queue = queue; number = number; command = command; reply = done.reply; moment = done.moment }))
  pub position_is : done.position ≡ position_by run (length new)

-- a write was started
pub record Starts {I : Type 0} (run : Run) (entry : I → Entry) (mark : I → Mark) (old new : List I) (queue number : ℕ) (command : Command) (ticket : Ticket) : Type 0 where
  pub write : is_write command ≡ true
  pub rg : ℕ
  pub ruh : ℕ
  pub pid_valid : Bool
  pub adds : AddsOwn entry mark queue old new (entries.Started (record { queue = queue; number = number; command = command; rg = rg; ruh = ruh; pid_valid = pid_valid }))
  pub ticket_is : ticket ≡ record { queue = queue; number = number; position = position_by run (length new) }

-- the first step of a command completes it, or starts it
abbrev pub Begins : {I : Type 0} → Run → (I → Entry) → (I → Mark) → List I → List I → ℕ → ℕ → Command → Begun → Type 0
Begins run entry mark old new queue number command (begun.Ended done) = Completes run entry mark old new queue number command done
Begins run entry mark old new queue number command (begun.Going ticket) = Starts run entry mark old new queue number command ticket

-- a page of a going write was placed
pub record PlacesPage {I : Type 0} (entry : I → Entry) (mark : I → Mark) (old new : List I) (ticket : Ticket) : Type 0 where
  pub index : ℕ
  pub unit : ℕ
  pub page : ℕ
  pub adds : AddsOwn entry mark ticket.queue old new (entries.Placed (record { ticket = ticket.position; index = index; unit = unit; page = page }))

-- room was made for a page
pub record MakesRoom {I : Type 0} (mark : I → Mark) (old new : List I) : Type 0 where
  pub adds : AddsNone mark old new
  pub some : length old < length new

-- a step for a going write places its next page, which is its last or not, makes room for it, or ends the write
abbrev pub Places : {I : Type 0} → Run → (I → Entry) → (I → Mark) → List I → List I → Ticket → Going → Placed → Type 0
Places run entry mark old new ticket g (placed.More next) = (next ≡ ticket) × ((PlacesPage entry mark old new ticket × (g.placed + 1 < blocks_written g.command)) ⊎ MakesRoom mark old new)
Places run entry mark old new ticket g (placed.Ready next) = (next ≡ ticket) × PlacesPage entry mark old new ticket × (g.placed + 1 ≡ blocks_written g.command)
Places run entry mark old new ticket g (placed.Ended done) = Completes run entry mark old new ticket.queue g.number g.command done
