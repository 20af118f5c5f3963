use Rattle.std.proofs.Common.{◌∙◌, ap, subst, sym}
use Rattle.fdp_workers.specs.fdp_book.Book.{state_in}
use Rattle.fdp_workers.specs.fdp_book.Steps.{IsReady}
use Rattle.fdp_workers.specs.fdp_book.Tickets.{IsTicketOf}
use Rattle.fdp_gauge.specs.Passes.{told_of}
use Rattle.fdp_workers.specs.Turns as turns
use Rattle.fdp_board.specs.Board.{BoardSeen, began_with, items_of}
use Rattle.fdp_workers.specs.Marks.{entry_in, mark_in}
use Rattle.fdp_board.proofs.Came.{commits-ended, ended-completes, ended-goes}
use Rattle.fdp_board.proofs.Stepping.{began-after, board-after, ticket-there}
use Rattle.fdp_board.proofs.board.BoardSteps.commit.Given.{Over}
use Rattle.fdp_board.proofs.board.BoardSteps.commit.Goals as goal

pub commit-requires-clause-ticket : goal.commit-requires-clause-ticket
commit-requires-clause-ticket g c =
    let t = c.requires.ticket in
    subst (λ (b : BoardSeen g.row.F.Denot). IsReady b.group.book c.args.ticket) (sym c.self.view_is)
    (record { going = t.going; ticket_is = ticket-there c.args.self.now.group c.args.ticket t.going t.ticket_is; placed = t.placed })

-- the ticket is going in the drive before the step
going : (g : Over) (c : goal.After-commit g) → IsTicketOf (state_in c.self.inside.group.book) c.args.ticket c.requires.ticket.going
going g c =
    let t = c.requires.ticket in
    subst (λ (b : BoardSeen g.row.F.Denot). IsTicketOf (state_in b.group.book) c.args.ticket t.going) (sym c.self.view_is) (ticket-there c.args.self.now.group c.args.ticket t.going t.ticket_is)

pub invariant_of-self : goal.invariant_of-self
invariant_of-self g c =
    let state = g.F.Flash.state in
    let old = c.self.inside.group in
    let v = c.requires.ticket.going in
    let q = commits-ended state old c.commit.new.self c.args.ticket v c.commit.result (c.commit.ensures.step v (going g c)) in
    board-after state old c.commit.new.self c.self.inside.before (told_of c.self.inside.teller) _ (ended-goes state old c.commit.new.self c.args.ticket.queue v.number v.command c.commit.result q) c.commit.ensures.stops c.self.invariant

pub returns-clause-origin : goal.returns-clause-origin
returns-clause-origin g c =
    let state = g.F.Flash.state in
    let old = c.self.inside.group in
    let v = c.requires.ticket.going in
    let q = commits-ended state old c.commit.new.self c.args.ticket v c.commit.result (c.commit.ensures.step v (going g c)) in
    began-after state old c.commit.new.self c.self.inside.teller.place.table_id (told_of c.self.inside.teller) _ (ended-goes state old c.commit.new.self c.args.ticket.queue v.number v.command c.commit.result q) c.commit.ensures.stops ∙ ap (began_with state) c.self.view_is

pub returns-clause-step : goal.returns-clause-step
returns-clause-step g c = λ v is.
    let state = g.F.Flash.state in
    let old = c.self.inside.group in
    let here : IsTicketOf (state_in old.book) c.args.ticket v =
    subst (λ (b : BoardSeen g.row.F.Denot). IsTicketOf (state_in b.group.book) c.args.ticket v) (sym c.self.view_is) (ticket-there c.args.self.now.group c.args.ticket v is) in
    subst (λ (b : BoardSeen g.row.F.Denot). turns.Completes (record { config = b.group.book.config; found = b.group.book.found; gauge = b.gauge }) entry_in mark_in (items_of b.group) (items_of c.commit.new.self) c.args.ticket.queue v.number v.command c.commit.result) c.self.view_is
    (ended-completes state old c.commit.new.self c.self.inside.teller.place.table_id c.args.ticket.queue v.number v.command c.commit.result (commits-ended state old c.commit.new.self c.args.ticket v c.commit.result (c.commit.ensures.step v here)))
