-- What is known of the flight of a ticket.
use Rattle.std.specs.Prelude.{◌≡◌, ℕ, ◌+◌, ◌-◌, ◌<◌, ◌≤◌, ◌&&◌, ◌==◌, IsTrue, List, [], ◌∷◌, ◌++◌, Option, Some, IfSome, length, slice_get, option_map, if◌then◌else◌}
use Rattle.fdp_base.specs.declared.command.Command.{Command}
use Rattle.fdp_base.specs.declared.command.Write.{Write}
use Rattle.fdp_base.specs.declared.config.Geometry.{Geometry}
use Rattle.fdp_base.specs.declared.entry.Spot.{Spot}
use Rattle.fdp_base.specs.CommandKinds.{blocks_written, is_write, write_of}
use Rattle.fdp_base.specs.Config.{IsValidConfig}
use Rattle.fdp_base.specs.Numbers.{is_among}
use Rattle.fdp_book.specs.declared.flight.Flight.{Flight}
use Rattle.fdp_book.specs.declared.ticket.Ticket.{Ticket}
use Rattle.fdp_book.specs.Book.{BookSeen, point_in, state_in}
use Rattle.fdp_book.specs.Held.{going_of}
use Rattle.fdp_book.specs.Tickets.{IsTicketOf}
use Rattle.fdp_commands.specs.declared.admission.Admission.{Admission}
use Rattle.fdp_history.specs.OrderlyState.{IsOrderlyGoing}
use Rattle.fdp_map.specs.declared.mapped.Mapped.{Mapped}
use Rattle.fdp_map.specs.MapTable.{mapped_on}
use Rattle.fdp_rules.specs.Change.{one_more_placed}
use Rattle.fdp_rules.specs.PlainState.{Going, PageName.written}
use Rattle.fdp_rules.specs.Sites.{is_there}
use Rattle.fdp_rules.specs.Step.{IsOnTarget}

-- the flight of a ticket: the write that is going in its queue, in order; while its namespace is there, it goes where it was started
-- for, its pages stand where it says, and its blocks lie below the bound of all namespaces
pub record IsFlightAt (b : BookSeen) (ticket : Ticket) (f : Flight) : Type 0 where
  pub config : IsValidConfig b.config
  pub going : IsTicketOf (state_in b) ticket (going_of f)
  pub orderly : IsOrderlyGoing b.config (state_in b) ticket.queue (going_of f)
  pub target : IsTrue (is_there (state_in b) (going_of f)) → IsOnTarget b.config (state_in b) (going_of f)
  pub pages : IsTrue (is_there (state_in b) (going_of f)) → (index : ℕ) (spot : Spot) → slice_get f.pages.items index ≡ Some spot → (point_in b).trail.site (written f.ticket index) ≡ Some spot
  pub end : IsTrue (is_there (state_in b) (going_of f)) → IfSome (write_of f.room.command) (λ (w : Write). w.slba + w.count ≤ 262144)

-- a write that is let go where it was admitted: none of its pages is placed
abbrev pub first_going : ℕ → ℕ → ℕ → Admission → Command → Going
first_going number ticket birth a command = record {
  number = number;
  ticket = ticket;
  command = command;
  birth = birth;
  rg = a.target.rg;
  ruh = a.target.ruh;
  pid_valid = a.target.valid;
  roomiest = a.roomiest;
  placed = 0;
}

-- a write is going, and a page of it is still to be placed
pub record IsUnfinished (x : Option Flight) : Type 0 where
  pub flight : Flight
  pub flight_is : x ≡ Some flight
  pub write : IsTrue (is_write flight.room.command)
  pub left : length flight.pages.items < blocks_written flight.room.command
  pub few : blocks_written flight.room.command ≤ 64

-- the flight with one page more
pub record IsPageMore (old : Flight) (spot : Spot) (new : Flight) : Type 0 where
  pub going_is : going_of new ≡ one_more_placed (going_of old)
  pub pages_are : new.pages.items ≡ old.pages.items ++ spot ∷ []

-- a flight is there, with one page more than before
abbrev pub HasPageMore : Flight → Spot → Option Flight → Type 0
HasPageMore old spot new = (f : Flight) × (new ≡ Some f) × IsPageMore old spot f

-- the place of a block of a write, by its number in the write
abbrev pub place_in : Geometry → List Spot → ℕ → Option Mapped
place_in g pages index = option_map (mapped_on g) (slice_get pages index)

-- the places of blocks with those of a write, of so many blocks from an address on
abbrev pub with_pages : (ℕ → ℕ → Option Mapped) → ℕ → ℕ → Geometry → List Spot → ℕ → ℕ → ℕ → Option Mapped
with_pages table nsid slba g pages count n lba =
    if n == nsid && is_among slba count lba then place_in g pages (lba - slba) else table n lba
