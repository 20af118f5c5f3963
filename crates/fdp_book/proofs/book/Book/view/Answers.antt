use Rattle.std.proofs.Common.{◌≡◌, ◌∙◌, ap, subst, sym}
use Rattle.fdp_book.specs.Book.{BookSeen, point_in}
use Rattle.fdp_book.specs.Held.{book_of}
use Rattle.fdp_book.specs.Outlined.{IsOutlineAt}
use Rattle.fdp_book.proofs.Telling.{outline-can-tell, outline-tells}
use Rattle.fdp_log_pages.specs.Told.{Tells, Told}
use Rattle.fdp_rules.specs.History.{point_of, totals_of}
use Rattle.fdp_book.proofs.book.Book.view.Goals as goal

pub new-requires : goal.new-requires
new-requires c =
    let old = c.self.inside in
    let b : BookSeen = book_of old.config old.origin old.log old.tables in
    let h = c.self.invariant.held in
    outline-can-tell b.config (point_in b) c.summary.result.now c.totals.result h.config h.orderly (subst (λ (x : BookSeen). IsOutlineAt x.config (point_in x) c.summary.result.now) (sym c.self.view_is) c.summary.ensures.outline) c.summary.ensures.writable

pub returns-clause-tells : goal.returns-clause-tells
unfolding point_of
returns-clause-tells c =
    let old = c.self.inside in
    let b : BookSeen = book_of old.config old.origin old.log old.tables in
    let totals : c.totals.result ≡ (point_in b).totals = c.totals.ensures.totals ∙ ap (λ (x : BookSeen). totals_of x.found x.entries) (sym c.self.view_is) in
    subst (λ (t : Told). Tells t (point_in c.args.self.now)) (sym c.new.ensures)
    (subst (λ (x : BookSeen). Tells (record { config = b.config; summary = c.summary.result.now; totals = c.totals.result }) (point_in x)) c.self.view_is
    (outline-tells b.config (point_in b) c.summary.result.now c.totals.result (subst (λ (x : BookSeen). IsOutlineAt x.config (point_in x) c.summary.result.now) (sym c.self.view_is) c.summary.ensures.outline) totals))
