use Rattle.std.proofs.Common.{[], List, length, arith, ap, subst, sym, ◌∙◌}
use Rattle.fdp_base.specs.declared.entry.Entry.{Entry}
use Rattle.fdp_rules.specs.Seats.{marks_after}
use Rattle.fdp_workers.specs.Run.{IsHistory, OpensFirst}
use Rattle.fdp_board.specs.Board.{BoardSeen, items_of}
use Rattle.fdp_workers.specs.Marks.{entry_in, mark_in}
use Rattle.fdp_board.proofs.Items.{entries-marked, length-marked, marks-marked}
use Rattle.fdp_board.proofs.board.BoardSteps.known.Goals as goal

pub returns : goal.returns
returns g c =
    let s = c.self.inside.group in
    let f = s.book.found in
    let es = s.book.entries in
    let few = c.entries-few.ensures.few in
    let same = ap (λ (xs : List Entry). length xs) c.entries-few.ensures.entries in
    let bound = c.spent-bound.ensures.bound in
    subst (λ (b : BoardSeen g.row.F.Denot). IsHistory (record { config = b.group.book.config; found = b.group.book.found; gauge = b.gauge }) entry_in mark_in (items_of b.group)) c.self.view_is
    (record {
      next = record {
        marks = marks-marked f [] es ∙ ap (marks_after f []) (sym (entries-marked f [] es));
        opening = subst (OpensFirst []) (sym (entries-marked f [] es)) c.self.invariant.opens;
      };
      few = omega (arith, few, same, bound, length-marked f [] es);
    })
