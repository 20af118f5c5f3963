use Rattle.std.proofs.Common.{◌≡◌, subst}
use Rattle.fdp_book.specs.Book.{BookSeen, point_in, state_in}
use Rattle.fdp_book.specs.Held.{book_of}
use Rattle.fdp_book.proofs.Outlining.{namespaces-said}
use Rattle.fdp_rules.specs.Effect.{lowest_free}
use Rattle.fdp_book.proofs.book.Book.lowest_free.Goals as goal

pub returns : goal.returns
returns c =
    let old = c.self.inside in
    let b : BookSeen = book_of old.config old.origin old.log old.tables in
    subst (λ (x : BookSeen). c.lowest_free.result ≡ lowest_free (state_in x)) c.self.view_is (c.lowest_free.ensures.value (state_in b) (namespaces-said old.config (point_in b) old.tables.outline c.self.invariant.held.outline_is))
