use Rattle.std.proofs.Common.{List, length, ap, ◌∙◌}
use Rattle.fdp_base.specs.declared.entry.Entry.{Entry}
use Rattle.fdp_workers.specs.Marks.{counts_of}
use Rattle.fdp_board.specs.Board.{BoardSeen}
use Rattle.fdp_board.proofs.Items.{counts-are, sums-rise}
use Rattle.fdp_board.proofs.board.Board.counts.Goals as goal

pub overflow_sub-result : goal.overflow_sub-result
overflow_sub-result g c = let b = c.self.inside.group.book in (sums-rise b.found b.entries c.self.inside.before c.totals-totals.result c.totals-totals.ensures c.self.invariant.sums).0

pub overflow_sub-result-2 : goal.overflow_sub-result-2
overflow_sub-result-2 g c = let b = c.self.inside.group.book in (sums-rise b.found b.entries c.self.inside.before c.totals-totals.result c.totals-totals.ensures c.self.invariant.sums).1

pub overflow_sub-result-3 : goal.overflow_sub-result-3
overflow_sub-result-3 g c = let b = c.self.inside.group.book in (sums-rise b.found b.entries c.self.inside.before c.totals-totals.result c.totals-totals.ensures c.self.invariant.sums).2

pub returns : goal.returns
returns g c =
    let b = c.self.inside.group.book in
    counts-are b.found b.entries c.self.inside.before c.totals-totals.result (length c.entries.result.now) (ap (λ (es : List Entry). length es) c.entries.ensures.entries) c.totals-totals.ensures c.self.invariant.sums
    ∙ ap (λ (x : BoardSeen g.row.F.Denot). counts_of x.group.book.entries) c.self.view_is
