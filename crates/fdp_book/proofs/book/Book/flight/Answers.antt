use Rattle.std.proofs.Common.{◌≡◌, ◌∙◌, ◌<◌, Some, ap, arith, length, subst, sym}
use Rattle.fdp_book.specs.Book.{BookSeen}
use Rattle.fdp_book.specs.Steps.{IsFlying}
use Rattle.fdp_book.specs.Flown.{IsFlightAt}
use Rattle.fdp_book.specs.Held.{flight_in, book_of}
use Rattle.fdp_book.proofs.Flights.Flown.{flight_at, flight_in-index, queue-below}
use Rattle.fdp_book.proofs.book.Book.flight.Goals as goal

pub returns : goal.returns
returns c =
    let old = c.self.inside in
    let b : BookSeen = book_of old.config old.origin old.log old.tables in
    let flying : IsFlying b c.args.ticket.now = subst (λ (x : BookSeen). IsFlying x c.args.ticket.now) (sym c.self.view_is) c.requires in
    let below : c.from.result < length old.tables.flights.items = omega (arith, c.from.ensures, queue-below b old.tables c.args.ticket.now c.self.invariant.held flying) in
    let at : flight_in old.tables.flights.items c.from.result ≡ Some c.in-Some.flight = flight_in-index old.tables.flights.items c.from.result c.index.result.now below ∙ sym c.index.ensures ∙ c.in-Some.is in
    let is : flight_in old.tables.flights.items c.args.ticket.now.queue ≡ Some c.in-Some.flight = sym (ap (flight_in old.tables.flights.items) c.from.ensures) ∙ at in
    subst (λ (x : BookSeen). IsFlightAt x c.args.ticket.now c.in-Some.flight) c.self.view_is (flight_at b old.tables c.args.ticket.now c.in-Some.flight c.self.invariant.held flying is)
