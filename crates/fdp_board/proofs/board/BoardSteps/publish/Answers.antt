use Rattle.std.proofs.Common.{[], List, ap, subst, sym, ◌∙◌}
use mathlib.Core.List.{IsPrefix}
use Rattle.fdp_base.specs.declared.recorded.Mark.{Mark}
use Rattle.fdp_base.proofs.Records.{prefix_refl}
use Rattle.fdp_gauge.specs.Passes.{told_of}
use Rattle.fdp_rules.specs.Seats.{marks_of}
use Rattle.fdp_board.specs.Board.{BoardSeen}
use Rattle.fdp_board.proofs.Items.{marks-marked}
use Rattle.fdp_workers.proofs.Marks.{snapshot-marked}
use Rattle.fdp_workers.specs.Marks.{counts_of}
use Rattle.fdp_board.proofs.board.BoardSteps.publish.Goals as goal

pub publish-requires-clause-goes_on : goal.publish-requires-clause-goes_on
publish-requires-clause-goes_on g c =
    let b = c.self.inside.group.book in
    subst (λ (ms : List Mark). IsPrefix (told_of c.self.inside.teller) ms) (sym (marks-marked b.found [] b.entries)) c.self.invariant.shown

pub publish-requires-clause-counts : goal.publish-requires-clause-counts
publish-requires-clause-counts g c =
    let b = c.self.inside.group.book in
    c.counts-snapshot.ensures ∙ ap (λ (x : BoardSeen g.row.F.Denot). counts_of x.group.book.entries) (sym c.self.view_is) ∙ sym (snapshot-marked b.found b.entries)

pub invariant_of-self : goal.invariant_of-self
invariant_of-self g c =
    let b = c.self.inside.group.book in
    let was = c.self.invariant in
    record {
      opens = was.opens;
      shown = subst (λ (ms : List Mark). IsPrefix ms (marks_of b.found b.entries)) (sym (c.meet.ensures.teller ∙ c.publish.ensures.told ∙ marks-marked b.found [] b.entries)) (prefix_refl (marks_of b.found b.entries));
      sums = was.sums;
      safe = was.safe;
      roomy = was.roomy;
      later = was.later;
      charged = was.charged;
      unfailing = was.unfailing;
      steps = was.steps;
      emptied = was.emptied;
    }
