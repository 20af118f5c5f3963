use Rattle.std.proofs.Common.{subst, sym}
use Rattle.fdp_workers.specs.fdp_book.Steps.{IsFlying}
use Rattle.fdp_board.specs.Board.{BoardSeen}
use Rattle.fdp_board.proofs.Stepping.{ticket-there}
use Rattle.fdp_board.proofs.board.BoardSteps.abandon.Goals as goal

pub abandon-requires : goal.abandon-requires
abandon-requires g c =
    let t = c.requires.ticket in
    subst (λ (b : BoardSeen g.row.F.Denot). IsFlying b.group.book c.args.ticket) (sym c.self.view_is)
    (record { going = t.going; ticket_is = ticket-there c.args.self.now.group c.args.ticket t.going t.ticket_is })
