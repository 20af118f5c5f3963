use Rattle.std.proofs.Common.{◌∙◌, ap, arith, refl, subst, sym}
use Rattle.fdp_owners.specs.OwnerTable.{owner_at}
use Rattle.fdp_pages.specs.PageTables.{PageTables}
use Rattle.fdp_pages.proofs.Found.{first-found}
use Rattle.fdp_pages.proofs.Places.{place-there}
use Rattle.fdp_units.specs.UnitTable.{IsUnit}
use Rattle.fdp_pages.proofs.pages.Pages.first_owner.Goals as goal

pub get-owner-requires : goal.get-owner-requires
get-owner-requires c =
    let t : PageTables = record { handles = c.self.inside.handles; units = c.self.inside.units; owners = c.self.inside.owners; passes = c.self.inside.passes.items } in
    let is = subst (λ (x : PageTables). IsUnit x.units c.args.unit) (sym c.self.view_is) c.requires in
    place-there t.units t.owners (record { unit = c.args.unit; page = c.loop-page.page }) c.self.invariant.cut.owners is (omega (arith, c.loop-page-test.true, c.unit_pages-page-end.ensures))

pub returns-then-is_some : goal.returns-then-is_some
returns-then-is_some c =
    first-found (owner_at c.args.self.now.owners) c.args.unit (record { unit = c.args.unit; page = c.loop-page.page }) c.get-owner.result refl (c.get-owner.ensures ∙ ap (λ (x : PageTables). owner_at x.owners (record { unit = c.args.unit; page = c.loop-page.page })) c.self.view_is) (sym c.is_some.ensures ∙ c.if-is_some.true)
