use Rattle.std.proofs.Common.{sym, subst, Err, inr}
use Rattle.fdp_relocation.specs.fdp_book.Book.{point_in, state_in}
use Rattle.fdp_relocation.specs.fdp_book.Steps as book
use Rattle.fdp_relocation.specs.fdp_book.Tickets.{IsTicketOf}
use Rattle.fdp_core.specs.Seen.{Seen}
use Rattle.fdp_core.proofs.Commits.{commits-err}
use Rattle.fdp_core.proofs.group.Group.commit.Goals as goal
use Rattle.fdp_rules.specs.Step.{MaySucceed}

pub returns-in-Ok-clause-step : goal.returns-in-Ok-clause-step
returns-in-Ok-clause-step g c going is =
    let here = subst (λ (s : Seen g.row.F.Denot). IsTicketOf (state_in s.book) c.args.ticket going) (sym c.self.view_is) is in
    let may = subst (λ (s : Seen g.row.F.Denot). MaySucceed s.book.config (point_in s.book) going) c.self.view_is (c.in-Ok.ensures going here) in
    inr (inr (may, c.save_write.ensures.step going is))

pub returns-in-Err-clause-step : goal.returns-in-Err-clause-step
returns-in-Err-clause-step g c going is =
    let here = subst (λ (s : Seen g.row.F.Denot). IsTicketOf (state_in s.book) c.args.ticket going) (sym c.self.view_is) is in
    let verdict = subst (λ (s : Seen g.row.F.Denot). book.IsVerdict s.book going (Err c.in-Err.status)) c.self.view_is (c.in-Err.ensures going here) in
    commits-err g.F.Flash.state c.args.self.now c.end_alone.new.self c.args.ticket going c.in-Err.status c.end_alone.result verdict (c.end_alone.ensures.step going is)
