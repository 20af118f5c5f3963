use Rattle.std.proofs.Common.{◌∙◌, ◌<◌, ap, subst, sym}
use Rattle.std.specs.Prelude.{IfSome}
use Rattle.fdp_base.specs.Placement.{geometry_of}
use Rattle.fdp_image.specs.Areas.{data_pages}
use Rattle.fdp_readings.specs.Drawn.{drawn}
use Rattle.fdp_book.specs.Book.{BookSeen, point_in}
use Rattle.fdp_book.specs.Held.{book_of}
use Rattle.fdp_book.proofs.Saving.{lists-drawn, lists-within}
use Rattle.fdp_book.proofs.book.Book.page_lists.Goals as goal

pub returns-clause-blocks : goal.returns-clause-blocks
returns-clause-blocks c nsid lba =
    let old = c.self.inside in
    let b : BookSeen = book_of old.config old.origin old.log old.tables in
    c.pages.ensures.blocks nsid lba ∙ lists-drawn b old.tables c.self.invariant.held nsid lba
    ∙ ap (λ (x : BookSeen). (drawn x.config (point_in x)).pages nsid lba) c.self.view_is

pub returns-clause-places : goal.returns-clause-places
returns-clause-places c nsid lba =
    let old = c.self.inside in
    let geometry = ap (λ (x : BookSeen). geometry_of x.config) c.self.view_is in
    subst (λ o. IfSome o (λ page. page < data_pages (geometry_of c.args.self.now.config))) (sym (c.pages.ensures.blocks nsid lba))
    (lists-within old.tables.map (geometry_of c.args.self.now.config) nsid lba (c.self.invariant.held.map_is.geometry ∙ geometry) (c.placed.ensures.places nsid lba))
