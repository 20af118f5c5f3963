use Rattle.std.proofs.Common.{inl, subst}
use Rattle.std.specs.Prelude.{IsFalse}
use Rattle.fdp_relocation.specs.fdp_book.Book.{state_in}
use Rattle.fdp_relocation.specs.fdp_book.Tickets.{IsTicketOf}
use Rattle.fdp_core.specs.Seen.{Seen}
use Rattle.fdp_rules.specs.Sites.{is_there}
use Rattle.fdp_core.proofs.group.Group.place.Goals as goal

pub returns-in-Gone-clause-step : goal.returns-in-Gone-clause-step
returns-in-Gone-clause-step g c going is =
    let gone = subst (λ (s : Seen g.row.F.Denot). IsTicketOf (state_in s.book) c.args.ticket going → IsFalse (is_there (state_in s.book) going)) c.self.view_is (c.in-Gone.ensures going) is in
    inl (gone, c.end_alone.ensures.step going is)
