use Rattle.std.proofs.Common.{◌≡◌, subst}
use Rattle.fdp_book.specs.Book.{BookSeen, point_in, state_in}
use Rattle.fdp_book.specs.Held.{book_of, going_of}
use Rattle.fdp_book.proofs.Outlining.{namespaces-said}
use Rattle.fdp_rules.specs.Sites.{is_there}
use Rattle.fdp_book.proofs.book.Book.is_there.Goals as goal

pub returns : goal.returns
returns c =
    let old = c.self.inside in
    let b : BookSeen = book_of old.config old.origin old.log old.tables in
    subst (λ (x : BookSeen). c.is_there.result ≡ is_there (state_in x) (going_of c.args.flight.now)) c.self.view_is
    (c.is_there.ensures.state (state_in b) (namespaces-said b.config (point_in b) old.tables.outline c.self.invariant.held.outline_is))
