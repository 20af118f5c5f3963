use Rattle.std.proofs.Common.{subst}
use Rattle.fdp_rules.specs.History.{point_of, totals_of}
use Rattle.fdp_book.specs.Book.{BookSeen}
use Rattle.fdp_book.specs.Saving.{AreSmall}
use Rattle.fdp_book.proofs.Numbers.{small-totals}
use Rattle.fdp_book.proofs.book.Book.counted.Goals as goal

pub returns : goal.returns
unfolding point_of
returns c =
    let old = c.self.inside in
    subst (λ (b : BookSeen). AreSmall (totals_of b.found b.entries)) c.self.view_is
    (subst AreSmall c.self.invariant.held.outline_is.totals
    (small-totals old.config old.origin old.log old.tables c.position-position.result c.self.invariant c.position-position.ensures.position c.position-position.ensures.small c.position-position.ensures.few))
