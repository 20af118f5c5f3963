use Rattle.std.proofs.Common.{◌≡◌, ◌∙◌, ap, sym, subst, Some, Option, List}
use Rattle.fdp_book.specs.declared.flight.Flight.{Flight}
use Rattle.fdp_book.specs.Book.{BookSeen}
use Rattle.fdp_book.specs.Held.{flight_in, book_of}
use Rattle.fdp_book.specs.Stages.{IsStage}
use Rattle.fdp_book.proofs.Flights.Going.{stage-flown}
use Rattle.fdp_book.proofs.book.Book.stage.Goals as goal

pub returns-in-Some : goal.returns-in-Some
returns-in-Some c =
    let old = c.self.inside in
    let b : BookSeen = book_of old.config old.origin old.log old.tables in
    let is : flight_in old.tables.flights.items c.args.ticket.now.queue ≡ Some c.in-Some.flight.now = ap (λ (xs : List (Option Flight)). flight_in xs c.args.ticket.now.queue) (sym c.deref.ensures.value) ∙ sym c.in-Some.ensures in
    subst (λ (x : BookSeen). IsStage x c.args.ticket.now c.flight_stage.result) c.self.view_is (stage-flown b old.tables c.self.invariant.held c.args.ticket.now c.in-Some.flight.now c.flight_stage.result is c.flight_stage.ensures)
