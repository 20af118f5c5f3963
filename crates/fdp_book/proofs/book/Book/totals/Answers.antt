use Rattle.std.proofs.Common.{◌∙◌, ap, subst, sym}
use Rattle.fdp_rules.specs.History.{point_of, totals_of}
use Rattle.fdp_book.specs.Book.{BookSeen}
use Rattle.fdp_book.specs.Saving.{AreSmall}
use Rattle.fdp_snapshot.specs.declared.state.Summary.{Summary}
use Rattle.fdp_book.proofs.book.Book.totals.Goals as goal

pub returns-clause-totals : goal.returns-clause-totals
unfolding point_of
returns-clause-totals c =
    ap (λ (s : Summary). s.totals) c.summary.ensures.summary
    ∙ c.self.invariant.held.outline_is.totals
    ∙ ap (λ (b : BookSeen). totals_of b.found b.entries) c.self.view_is

pub returns-clause-small : goal.returns-clause-small
returns-clause-small c = subst AreSmall (sym (returns-clause-totals c)) c.counted.ensures
