-- What the steps of a book are made of.
use Rattle.std.specs.Prelude.{◌≡◌, ◌⊎◌, ℕ, ◌+◌, ◌<◌, ◌==◌, Bool, IsTrue, IsFalse, List, [], ◌∷◌, ◌++◌, Some, Ok, Err, Result, option_map, ◌||◌}
use Rattle.fdp_base.specs.declared.command.Command.{Command}
use Rattle.fdp_base.specs.declared.entry.Entry.{Entry}
use Rattle.fdp_base.specs.declared.entry.Entry.TheVariants as entries
use Rattle.fdp_base.specs.declared.entry.Reply.{Reply}
use Rattle.fdp_base.specs.declared.entry.Spot.{Spot}
use Rattle.fdp_base.specs.declared.status.Status.{Status}
use Rattle.fdp_base.specs.declared.status.TheConstants.Status as statuses
use Rattle.fdp_rules.specs.Change.{one_more_placed, started}
use Rattle.fdp_base.specs.CommandKinds.{IsWellFormed, blocks_written, is_read, is_write, write_of}
use Rattle.fdp_rules.specs.PlainState.{Going}
use Rattle.fdp_rules.specs.Room.{roomiest}
use Rattle.fdp_rules.specs.Sites.{is_there}
use Rattle.fdp_rules.specs.Step.{Follows, IsQueue, MaySucceed, exceeds_budget, goes_to}
use Rattle.fdp_rules.specs.Target.{Target}
use Rattle.fdp_owners.specs.declared.owner.Owner.{Owner}
use Rattle.fdp_readings.specs.fdp_pages.Steps.{PutsPage}
use Rattle.fdp_book.specs.declared.ticket.Done.{Done}
use Rattle.fdp_book.specs.declared.ticket.Ticket.{Ticket}
use Rattle.fdp_book.specs.Book.{BookSeen, IsLonger, point_in, position_in, state_in}
use Rattle.fdp_commands.specs.declared.admission.Admission.{Admission}
use Rattle.fdp_book.specs.FirstSteps.{IsAdmitted}
use Rattle.fdp_book.specs.Room.{RoomSeen, room_for}
use Rattle.fdp_book.specs.Tickets.{IsTicketOf}

-- a command that is served: a write or a read
abbrev pub IsServed : Command → Type 0
IsServed command = IsTrue (is_write command || is_read command)

-- a write may be let go in a queue where it was admitted, with this room
pub record MayStart (b : BookSeen) (queue : ℕ) (command : Command) (admission : Admission) (room : RoomSeen) : Type 0 where
  pub queue_is : IsQueue b.config queue
  pub formed : IsWellFormed b.config command
  pub admitted : IsAdmitted b command admission
  pub room_is : room ≡ room_for command b.config

-- a step lets a write go: to its target, with the group that has most room; the entry may follow, and the ticket is its own
pub record Starts (old new : BookSeen) (queue number : ℕ) (command : Command) (ticket : Ticket) : Type 0 where
  pub target : Target
  pub target_is : option_map (goes_to old.config (state_in old) (roomiest old.config (state_in old))) (write_of command) ≡ Some target
  pub step : IsLonger old new (entries.Started (record { queue = queue; number = number; command = command; rg = target.rg; ruh = target.ruh; pid_valid = target.valid }) ∷ [])
  pub follows : (told : Bool) → Follows told old.config (point_in old) (entries.Started (record { queue = queue; number = number; command = command; rg = target.rg; ruh = target.ruh; pid_valid = target.valid }))
  pub ticket_is : ticket ≡ record { queue = queue; number = number; position = position_in new }
  pub going : IsTicketOf (state_in new) ticket (started old.config (state_in old) number command target.rg target.ruh target.valid)

-- a step completes a command: its Host entry stands behind these
pub record Completes (old new : BookSeen) (before : List Entry) (queue number : ℕ) (command : Command) (reply : Reply) (moment : ℕ) (done : Done) : Type 0 where
  pub step : IsLonger old new (before ++ entries.Host (record { queue = queue; number = number; command = command; reply = reply; moment = moment }) ∷ [])
  pub done_is : done ≡ record { position = position_in new; moment = moment; reply = reply }

-- the write of a ticket is going, and a page of it is still to be placed
pub record IsWaiting (b : BookSeen) (ticket : Ticket) : Type 0 where
  pub going : Going
  pub ticket_is : IsTicketOf (state_in b) ticket going
  pub asked : going.placed < blocks_written going.command

-- the write of a ticket is going, and all its pages are placed
pub record IsReady (b : BookSeen) (ticket : Ticket) : Type 0 where
  pub going : Going
  pub ticket_is : IsTicketOf (state_in b) ticket going
  pub placed : going.placed ≡ blocks_written going.command

-- the write of a ticket is going
pub record IsFlying (b : BookSeen) (ticket : Ticket) : Type 0 where
  pub going : Going
  pub ticket_is : IsTicketOf (state_in b) ticket going

-- a step places the next page of a going write; whether that was the last
pub record Places (old new : BookSeen) (ticket : Ticket) (g : Going) (spot : Spot) (last : Bool) : Type 0 where
  pub step : IsLonger old new (entries.Placed (record { ticket = ticket.position; index = g.placed; unit = spot.unit; page = spot.page }) ∷ [])
  pub owner : Owner
  pub puts : PutsPage old.pages new.pages g.rg g.ruh spot owner
  pub going : IsTicketOf (state_in new) ticket (one_more_placed g)
  pub last_is : last ≡ (g.placed + 1 == blocks_written g.command)

-- how a going write ends whose pages are placed: its namespace is gone, or it exceeds its budget, or it may succeed
abbrev pub IsVerdict : BookSeen → Going → Result (Unit {0}) Status → Type 0
IsVerdict b g (Ok done) = MaySucceed b.config (point_in b) g
IsVerdict b g (Err status) =
    (IsFalse (is_there (state_in b) g) × (status ≡ statuses.INVALID_NAMESPACE))
    ⊎ (IsTrue (is_there (state_in b) g) × IsTrue (exceeds_budget b.config (state_in b) g) × (status ≡ statuses.CAPACITY_EXCEEDED))
