use Rattle.std.proofs.Common.{◌≡◌, ◌∙◌, ap, sym, subst}
use Rattle.fdp_book.specs.Book.{BookSeen}
use Rattle.fdp_book.proofs.Placing.Free.{free-spot}
use Rattle.fdp_units.specs.DataUnits.{is_free}
use Rattle.fdp_units.specs.UnitTable.{IsGroup, UnitTable, count_in}
use Rattle.fdp_book.proofs.book.Book.free_spot.Goals as goal

pub returns-else-free_count-lt3 : goal.returns-else-free_count-lt3
returns-else-free_count-lt3 c =
    let units : c.args.self.now.pages.units ≡ c.self.inside.tables.pages.units = sym (ap (λ (b : BookSeen). b.pages.units) c.self.view_is) in
    free-spot c.args.self.now c.self.inside.tables.pages.units c.args.rg c.free_count.result c.first_page.result units
    (subst (λ (u : UnitTable). IsGroup u c.args.rg) units c.requires)
    (c.free_count.ensures ∙ ap (λ (u : UnitTable). count_in u c.args.rg is_free) c.units.ensures) c.if-free_count-lt3.false c.first_page.ensures.unit c.first_page.ensures.page
