use Rattle.std.proofs.Common.{false, subst}
use Rattle.fdp_rules.specs.Answer.{bare}
use Rattle.fdp_rules.specs.PlainState.{Going}
use Rattle.fdp_book.specs.Book.{BookSeen, state_in}
use Rattle.fdp_book.specs.declared.flight.Flight.{Flight}
use Rattle.fdp_book.specs.Held.{going_of}
use Rattle.fdp_book.specs.Shutting.{Shuts, ShutsAndEnds}
use Rattle.fdp_book.proofs.Held.Shut.{shut_entry}
use Rattle.fdp_book.proofs.Placing.Nexts.{one-going}
use Rattle.fdp_book.proofs.Shutting.{completes-shut}
use Rattle.fdp_book.proofs.book.Book.end_shut.Goals as goal

pub returns : goal.returns
returns c g is =
    let b : BookSeen = c.args.self.now in
    let new : BookSeen = c.shut.new.self in
    let f : Flight = c.flight-flight.result.now in
    let done : Shuts b new c.args.ticket (going_of f) f.rg f.ruh c.args.spot = c.shut.ensures (going_of f) c.flight-flight.ensures.going in
    let ends : ShutsAndEnds b c.end.new.self c.args.ticket (going_of f) c.args.spot c.args.status c.args.moment c.end.result = record {
      completes = completes-shut b new c.end.new.self (shut_entry f.rg f.ruh) c.args.ticket.queue f.number f.room.command (bare c.args.status false) c.args.moment c.end.result done.longer (c.end.ensures.step (going_of f) done.going);
      follows = done.follows;
      middle = new.pages;
      shut = done.unit;
      left = c.end.ensures.pages;
    } in
    subst (λ (k : Going). ShutsAndEnds b c.end.new.self c.args.ticket k c.args.spot c.args.status c.args.moment c.end.result) (one-going (state_in b) c.args.ticket (going_of f) g c.flight-flight.ensures.going is) ends
