-- Which write is going in a queue, by the flights.
use Rattle.std.proofs.Common.{◌≡◌, ℕ, zero, suc, ◌≤◌, IsTrue, List, [], ◌∷◌, length, Option, Some, None, refl, sym, ◌∙◌, ap, arith, eq-eqb, ne_eqb}
use Rattle.std.specs.Prelude.{◌↔◌, ◌==◌, not, option_map}
use Rattle.std.proofs.lemmas.Bool.{false≢true}
use Rattle.fdp_base.specs.CommandKinds.{is_write}
use Rattle.fdp_rules.specs.PlainState.{Going}
use Rattle.fdp_book.specs.declared.flight.Flight.{Flight}
use Rattle.fdp_book.specs.declared.stage.Stage.{Stage}
use Rattle.fdp_book.specs.declared.stage.Stage.TheVariants as stages
use Rattle.fdp_book.specs.declared.ticket.Ticket.{Ticket}
use Rattle.fdp_book.specs.Book.{BookSeen, state_in, first_in}
use Rattle.fdp_book.specs.Held.{IsHeld, flight_in, going_of}
use Rattle.fdp_book.specs.Stages.{HasTicket, IsFlightStage, IsStage}
use Rattle.fdp_book.specs.Stages.{IsFree}
use Rattle.fdp_book.specs.Tickets.{IsTicketOf}
use Rattle.fdp_book.specs.declared.tables.Tables.{Tables}

-- no row behind the last
pub flight_in-none : (flights : List (Option Flight)) (queue : ℕ) → length flights ≤ queue → flight_in flights queue ≡ None
flight_in-none [] queue past = refl
flight_in-none (x ∷ xs) zero past = absurd (omega (arith, past))
flight_in-none (x ∷ xs) (suc queue) past = flight_in-none xs queue (omega (arith, past))

module _ (b : BookSeen) (tables : Tables) (held : IsHeld b.config b.found (first_in b) b.entries tables) where
  -- the write that is going where a flight is
  pub going-flown : (queue : ℕ) (f : Flight) → flight_in tables.flights.items queue ≡ Some f → (state_in b).going queue ≡ Some (going_of f)
  going-flown queue f is = held.flights_are.going queue ∙ ap (option_map going_of) is

  pub none-going : (queue : ℕ) (g : Going) → flight_in tables.flights.items queue ≡ None → (state_in b).going queue ≡ Some g → ⊥
  none-going queue g is going =
      let e : None ≡ Some g = sym (held.flights_are.going queue ∙ ap (option_map going_of) is) ∙ going in
      absurd cc

  pub flown-write : (queue : ℕ) (f : Flight) → flight_in tables.flights.items queue ≡ Some f → IsTrue (is_write f.room.command)
  flown-write queue f is = (held.orderly.state.writes queue (going_of f) (going-flown queue f is)).write

  one-flown : (queue : ℕ) (f : Flight) (g : Going) → flight_in tables.flights.items queue ≡ Some f → (state_in b).going queue ≡ Some g → going_of f ≡ g
  one-flown queue f g is going = let e : Some (going_of f) ≡ Some g = sym (going-flown queue f is) ∙ going in cc

  ticket-flown : (ticket : Ticket) (f : Flight) → flight_in tables.flights.items ticket.queue ≡ Some f → HasTicket f ticket → IsTicketOf (state_in b) ticket (going_of f)
  ticket-flown ticket f is has = record { going_is = going-flown ticket.queue f is; number_is = has.number; position_is = has.position }

  -- how far the write of a ticket has come, by its flight
  pub stage-flown : (ticket : Ticket) (f : Flight) (stage : Stage) → flight_in tables.flights.items ticket.queue ≡ Some f → IsFlightStage f ticket stage → IsStage b ticket stage
  stage-flown ticket f stages.Waiting is h = record { going = going_of f; ticket_is = ticket-flown ticket f is h.0; asked = h.1 }
  stage-flown ticket f stages.Ready is h =
      let orderly = held.orderly.state.writes ticket.queue (going_of f) (going-flown ticket.queue f is) in
      record { going = going_of f; ticket_is = ticket-flown ticket f is h.0; placed = omega (arith, h.1, orderly.placed) }
  stage-flown ticket f stages.Over is h = λ g of.
      let same : going_of f ≡ g = one-flown ticket.queue f g is of.going_is in
      h (record { number = ap (λ (x : Going). x.number) same ∙ of.number_is; position = ap (λ (x : Going). x.ticket) same ∙ of.position_is })

  pub stage-none : (ticket : Ticket) → flight_in tables.flights.items ticket.queue ≡ None → IsStage b ticket stages.Over
  stage-none ticket is = λ g of. none-going ticket.queue g is of.going_is

  -- whether a number is free, by the flight
  pub free-flown : (queue number : ℕ) (f : Flight) → flight_in tables.flights.items queue ≡ Some f → IsTrue (not (f.number == number)) ↔ IsFree (state_in b) queue number
  free-flown queue number f is = (
    λ other g going same.
        let equal : f.number ≡ number = ap (λ (x : Going). x.number) (one-flown queue f g is going) ∙ same in
        false≢true (sym (ap not (eq-eqb f.number number equal)) ∙ other),
    λ free. ap not (ne_eqb f.number number (free (going_of f) (going-flown queue f is))),
  )

  pub free-none : (queue number : ℕ) → flight_in tables.flights.items queue ≡ None → IsFree (state_in b) queue number
  free-none queue number is = λ g going same. none-going queue g is going
