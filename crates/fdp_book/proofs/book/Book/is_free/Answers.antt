use Rattle.std.proofs.Common.{◌≡◌, ◌∙◌, ap, sym, subst, Some, Option, List}
use Rattle.std.specs.Prelude.{◌↔◌, ◌==◌, IsTrue, not}
use Rattle.fdp_book.specs.declared.flight.Flight.{Flight}
use Rattle.fdp_book.specs.Book.{BookSeen, state_in}
use Rattle.fdp_book.specs.Held.{flight_in, book_of}
use Rattle.fdp_book.specs.Stages.{IsFree}
use Rattle.fdp_book.proofs.Flights.Going.{free-flown}
use Rattle.fdp_book.proofs.book.Book.is_free.Goals as goal

pub returns-in-Some : goal.returns-in-Some
returns-in-Some c =
    let old = c.self.inside in
    let b : BookSeen = book_of old.config old.origin old.log old.tables in
    let is : flight_in old.tables.flights.items c.args.queue ≡ Some c.in-Some.flight.now = ap (λ (xs : List (Option Flight)). flight_in xs c.args.queue) (sym c.deref.ensures.value) ∙ sym c.in-Some.ensures in
    subst (λ (x : BookSeen). IsTrue (not (c.in-Some.flight.now.number == c.args.number)) ↔ IsFree (state_in x) c.args.queue c.args.number) c.self.view_is
    (free-flown b old.tables c.self.invariant.held c.args.queue c.args.number c.in-Some.flight.now is)
