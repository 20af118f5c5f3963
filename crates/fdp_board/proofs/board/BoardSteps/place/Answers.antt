use Rattle.std.proofs.Common.{◌∙◌, ap, subst, sym}
use Rattle.fdp_workers.specs.fdp_book.Book.{state_in}
use Rattle.fdp_workers.specs.fdp_book.Steps.{IsWaiting}
use Rattle.fdp_workers.specs.fdp_book.Tickets.{IsTicketOf}
use Rattle.fdp_gauge.specs.Passes.{told_of}
use Rattle.fdp_rules.specs.PlainState.{PlainState}
use Rattle.fdp_workers.specs.Turns as turns
use Rattle.fdp_board.specs.Board.{BoardSeen, began_with, items_of}
use Rattle.fdp_workers.specs.Marks.{entry_in, mark_in}
use Rattle.fdp_board.proofs.Came.{places-goes, places-told}
use Rattle.fdp_board.proofs.Stepping.{began-after, board-after, state-there, ticket-there}
use Rattle.fdp_board.proofs.board.BoardSteps.place.Given.{Over}
use Rattle.fdp_board.proofs.board.BoardSteps.place.Goals as goal

pub place-requires-clause-ticket : goal.place-requires-clause-ticket
place-requires-clause-ticket g c =
    let t = c.requires.ticket in
    subst (λ (b : BoardSeen g.row.F.Denot). IsWaiting b.group.book c.args.ticket) (sym c.self.view_is)
    (record { going = t.going; ticket_is = ticket-there c.args.self.now.group c.args.ticket t.going t.ticket_is; asked = t.asked })

-- the ticket is going in the drive before the step
going : (g : Over) (c : goal.After-place g) → IsTicketOf (state_in c.self.inside.group.book) c.args.ticket c.requires.ticket.going
going g c =
    let t = c.requires.ticket in
    subst (λ (b : BoardSeen g.row.F.Denot). IsTicketOf (state_in b.group.book) c.args.ticket t.going) (sym c.self.view_is) (ticket-there c.args.self.now.group c.args.ticket t.going t.ticket_is)

pub invariant_of-self : goal.invariant_of-self
invariant_of-self g c =
    let state = g.F.Flash.state in
    let old = c.self.inside.group in
    let v = c.requires.ticket.going in
    let q = places-goes state old c.place.new.self c.args.ticket v c.place.result (c.place.ensures.step v (going g c)) in
    board-after state old c.place.new.self c.self.inside.before (told_of c.self.inside.teller) q.0 q.1 c.place.ensures.stops c.self.invariant

pub returns-clause-origin : goal.returns-clause-origin
returns-clause-origin g c =
    let state = g.F.Flash.state in
    let old = c.self.inside.group in
    let v = c.requires.ticket.going in
    let q = places-goes state old c.place.new.self c.args.ticket v c.place.result (c.place.ensures.step v (going g c)) in
    began-after state old c.place.new.self c.self.inside.teller.place.table_id (told_of c.self.inside.teller) q.0 q.1 c.place.ensures.stops ∙ ap (began_with state) c.self.view_is

pub returns-clause-step : goal.returns-clause-step
returns-clause-step g c = λ v is.
    let state = g.F.Flash.state in
    let old = c.self.inside.group in
    let here : IsTicketOf (state_in old.book) c.args.ticket v =
    subst (λ (b : BoardSeen g.row.F.Denot). IsTicketOf (state_in b.group.book) c.args.ticket v) (sym c.self.view_is) (ticket-there c.args.self.now.group c.args.ticket v is) in
    subst (λ (b : BoardSeen g.row.F.Denot). turns.Places (record { config = b.group.book.config; found = b.group.book.found; gauge = b.gauge }) entry_in mark_in (items_of b.group) (items_of c.place.new.self) c.args.ticket v c.place.result) c.self.view_is
    (places-told state old c.place.new.self c.self.inside.teller.place.table_id c.args.ticket v c.place.result (subst (λ (s : PlainState). IsTicketOf s c.args.ticket v) (state-there old.book) here) (c.place.ensures.step v here))
