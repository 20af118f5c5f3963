-- What is known where the next page of a going write is placed.
use Rattle.std.proofs.Common.{◌≡◌, ℕ, ◌+◌, ◌<◌, Bool, List, [], ◌∷◌, length, slice_index_or, slice_set, Option, Some, None, refl, sym, ◌∙◌, ap, subst, arith, cond, eq-eqb}
use Rattle.std.specs.Prelude.{◌==◌, option_map}
use Rattle.fdp_base.specs.declared.entry.Entry.TheVariants as entries
use Rattle.fdp_base.specs.declared.entry.Spot.{Spot}
use Rattle.fdp_rules.specs.Change.{one_more_placed}
use Rattle.fdp_rules.specs.PlainState.{Going}
use Rattle.fdp_owners.specs.declared.owner.Owner.{Owner}
use Rattle.fdp_readings.specs.fdp_pages.Steps.{PutsPage}
use Rattle.fdp_book.specs.declared.flight.Flight.{Flight}
use Rattle.fdp_book.specs.declared.ticket.Ticket.{Ticket}
use Rattle.fdp_book.specs.Book.{BookSeen, IsLonger, state_in, first_in}
use Rattle.fdp_book.specs.Steps.{IsFlying, IsWaiting, Places}
use Rattle.fdp_book.specs.Flown.{IsFlightAt, IsPageMore, IsUnfinished}
use Rattle.fdp_book.specs.Held.{IsHeld, flight_in, going_of}
use Rattle.fdp_book.specs.Tickets.{IsNextSpot, IsTicketOf}
use Rattle.fdp_book.proofs.Flights.Rows.{flight_in-set}
use Rattle.fdp_book.proofs.Flights.Flown.{flight_in-index}
use Rattle.fdp_book.proofs.Placing.Nexts.{one-going}
use Rattle.fdp_book.specs.declared.tables.Tables.{Tables}
use Rattle.fdp_base.specs.CommandKinds.{blocks_written}

-- the flight that is going
pub flight-there : (o : Option Flight) (g : Going) → Some g ≡ option_map going_of o → (f : Flight) × (o ≡ Some f) × (going_of f ≡ g)
flight-there None g e = absurd cc
flight-there (Some f) g e = (f, refl, (let one : going_of f ≡ g = cc in one))

-- the flight in the queue of a ticket, whose write is going
pub flying-there : (b : BookSeen) (tables : Tables) (ticket : Ticket) → IsHeld b.config b.found (first_in b) b.entries tables → IsFlying b ticket → (f : Flight) × (flight_in tables.flights.items ticket.queue ≡ Some f) × IsTicketOf (state_in b) ticket (going_of f)
flying-there b tables ticket h flying =
    let found = flight-there (flight_in tables.flights.items ticket.queue) flying.going (sym flying.ticket_is.going_is ∙ h.flights_are.going ticket.queue) in
    (found.0, found.1, subst (IsTicketOf (state_in b) ticket) (sym found.2) flying.ticket_is)

-- a page of this flight is placed next
pub record IsPlacing (b : BookSeen) (tables : Tables) (ticket : Ticket) (f : Flight) (spot : Spot) : Type 0 where
  pub there : flight_in tables.flights.items ticket.queue ≡ Some f
  pub next : IsNextSpot b ticket (going_of f) spot
  pub ticket_is : IsTicketOf (state_in b) ticket (going_of f)
  pub asked : length f.pages.items < blocks_written f.room.command
  pub within : ticket.queue < length tables.flights.items
  pub unfinished : IsUnfinished (Some f)

pub placing : (b now : BookSeen) (tables : Tables) (ticket : Ticket) (spot : Spot) (x : Flight) → IsHeld b.config b.found (first_in b) b.entries tables → b ≡ now → IsWaiting now ticket → ((g : Going) → IsTicketOf (state_in now) ticket g → IsNextSpot now ticket g spot) → IsFlightAt now ticket x → (f : Flight) × IsPlacing b tables ticket f spot × (going_of x ≡ going_of f)
placing b now tables ticket spot x h same waiting_now next_now at_now =
    let waiting : IsWaiting b ticket = subst (λ (y : BookSeen). IsWaiting y ticket) (sym same) waiting_now in
    let next : (g : Going) → IsTicketOf (state_in b) ticket g → IsNextSpot b ticket g spot = subst (λ (y : BookSeen). (g : Going) → IsTicketOf (state_in y) ticket g → IsNextSpot y ticket g spot) (sym same) next_now in
    let at : IsFlightAt b ticket x = subst (λ (y : BookSeen). IsFlightAt y ticket x) (sym same) at_now in
    let found = flying-there b tables ticket h (record { going = waiting.going; ticket_is = waiting.ticket_is }) in
    let f : Flight = found.0 in
    let is : IsTicketOf (state_in b) ticket (going_of f) = found.2 in
    let one : waiting.going ≡ going_of f = one-going (state_in b) ticket waiting.going (going_of f) waiting.ticket_is is in
    let asked : length f.pages.items < blocks_written f.room.command = subst (λ (g : Going). g.placed < blocks_written g.command) one waiting.asked in
    let orderly = h.orderly.state.writes ticket.queue (going_of f) is.going_is in (
      f,
      record {
        there = found.1;
        next = next (going_of f) is;
        ticket_is = is;
        asked = asked;
        within = omega (arith, orderly.queue_is.1, h.flights_are.rows);
        unfinished = record { flight = f; flight_is = refl; write = orderly.write; left = asked; few = omega (arith, orderly.count.1, h.config.ranges.blocks_per_command.1) };
      },
      one-going (state_in b) ticket (going_of x) (going_of f) at.going is,
    )

-- the place of a flight in the list
pub slot-is : (flights : List (Option Flight)) (queue i : ℕ) (d : Option Flight) (f : Flight) → i ≡ queue → queue < length flights → flight_in flights queue ≡ Some f → d ≡ slice_index_or flights i d → d ≡ Some f
slot-is flights queue i d f same within there is = is ∙ ap (λ (k : ℕ). slice_index_or flights k d) same ∙ sym (flight_in-index flights queue d within) ∙ there

-- the step that places a page
pub places-step : (b new : BookSeen) (tables : Tables) (ticket : Ticket) (f more : Flight) (spot : Spot) (g : Going) (last : Bool) → IsHeld new.config new.found (first_in new) new.entries tables → flight_in tables.flights.items ticket.queue ≡ Some more → IsPageMore f spot more → IsTicketOf (state_in b) ticket (going_of f) → (x : Owner) → PutsPage b.pages new.pages f.rg f.ruh spot x → IsLonger b new (entries.Placed (record { ticket = ticket.position; index = length f.pages.items; unit = spot.unit; page = spot.page }) ∷ []) → last ≡ (length f.pages.items + 1 == blocks_written f.room.command) → IsTicketOf (state_in b) ticket g → Places b new ticket g spot last
places-step b new tables ticket f more spot g last h there grown ticket_is x puts step last_is its =
    let same : going_of f ≡ g = one-going (state_in b) ticket (going_of f) g ticket_is its in
    let going : (state_in new).going ticket.queue ≡ Some (one_more_placed (going_of f)) = h.flights_are.going ticket.queue ∙ ap (option_map going_of) there ∙ ap (λ (k : Going). Some k) grown.going_is in
    let own : Places b new ticket (going_of f) spot last = record {
      step = step;
      owner = x;
      puts = puts;
      going = record { going_is = going; number_is = ticket_is.number_is; position_is = ticket_is.position_is };
      last_is = last_is;
    } in
    subst (λ (k : Going). Places b new ticket k spot last) same own

-- the flight that was put into a queue
pub flight_in-put : (flights : List (Option Flight)) (queue i : ℕ) (o : Option Flight) (f : Flight) → i ≡ queue → queue < length flights → o ≡ Some f → flight_in (slice_set flights i o) queue ≡ Some f
flight_in-put flights queue i o f same within is =
    ap (λ (k : ℕ). flight_in (slice_set flights k o) queue) same
    ∙ flight_in-set flights queue o within queue
    ∙ ap (λ (b : Bool). cond b o (flight_in flights queue)) (eq-eqb queue queue refl)
    ∙ is
