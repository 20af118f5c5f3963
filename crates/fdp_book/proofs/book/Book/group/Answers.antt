use Rattle.std.proofs.Common.{ap}
use Rattle.fdp_rules.specs.PlainState.{Going}
use Rattle.fdp_book.specs.Book.{state_in}
use Rattle.fdp_book.specs.Held.{going_of}
use Rattle.fdp_book.proofs.Placing.Nexts.{one-going}
use Rattle.fdp_book.proofs.book.Book.group.Goals as goal

pub returns : goal.returns
returns c g is = ap (λ (x : Going). x.rg) (one-going (state_in c.args.self.now) c.args.ticket.now (going_of c.flight.result.now) g c.flight.ensures.going is)
