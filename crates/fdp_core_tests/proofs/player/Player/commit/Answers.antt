use Rattle.std.proofs.Common.{subst}
use Rattle.fdp_core.specs.fdp_book.Book.{state_in}
use Rattle.fdp_core.specs.fdp_book.declared.stage.Stage.TheVariants as stages
use Rattle.fdp_core.specs.fdp_book.declared.ticket.Ticket.{Ticket}
use Rattle.fdp_core.specs.Answers.{Commits}
use Rattle.fdp_core.specs.fdp_book.Tickets.{IsTicketOf}
use Rattle.fdp_core_tests.specs.Played.{Played}
use Rattle.fdp_core_tests.proofs.GoingOn.{ticket-one}
use Rattle.fdp_core_tests.proofs.player.Player.commit.Goals as goal

pub returns-in-Some-clause-committed : goal.returns-in-Some-clause-committed
returns-in-Some-clause-committed g c = λ ticket going may is.
    let one = ticket-one c.args.self.now c.args.queue stages.Ready stages.Ready c.in-Some.ticket ticket c.in-Some.ensures may in
    subst (λ (t : Ticket). IsTicketOf (state_in c.args.self.now.group.book) t going → Commits g.F.Flash.state c.args.self.now.group c.commit.new.self t going c.commit.result) one
    (subst (λ (s : Played g.row.F.Denot). IsTicketOf (state_in s.group.book) c.in-Some.ticket going → Commits g.F.Flash.state s.group c.commit.new.self c.in-Some.ticket going c.commit.result) c.self.view_is (c.commit.ensures.step going))
    is
