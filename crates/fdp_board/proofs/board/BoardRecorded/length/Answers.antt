use Rattle.std.proofs.Common.{List, [], length, ap, sym, ◌∙◌}
use Rattle.fdp_base.specs.declared.entry.Entry.{Entry}
use Rattle.fdp_board.proofs.Items.{length-marked}
use Rattle.fdp_board.specs.Board.{BoardSeen}
use Rattle.fdp_board.proofs.board.BoardRecorded.length.Goals as goal

pub returns : goal.returns
returns g c =
    let s = c.args.self.now.group in
    ap (λ (es : List Entry). length es) (c.entries.ensures.entries ∙ ap (λ (x : BoardSeen g.row.F.Denot). x.group.book.entries) c.self.view_is) ∙ sym (length-marked s.book.found [] s.book.entries)
