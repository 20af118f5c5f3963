use Rattle.std.proofs.Common.{List, [], length, ap, sym, ◌∙◌}
use Rattle.fdp_base.specs.declared.entry.Entry.{Entry}
use Rattle.fdp_workers.specs.fdp_core.Seen.{Seen}
use Rattle.fdp_board.proofs.Items.{length-marked}
use Rattle.fdp_board.proofs.record.RecordRecorded.length.Goals as goal

pub returns : goal.returns
returns g c =
    let s = c.args.self.now in
    ap (λ (es : List Entry). length es) (c.entries.ensures.entries ∙ ap (λ (x : Seen g.row.F.Denot). x.book.entries) c.self.view_is) ∙ sym (length-marked s.book.found [] s.book.entries)
