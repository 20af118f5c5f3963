use Rattle.std.proofs.Common.{◌≡◌, ◌∙◌, ap, subst, sym}
use Rattle.fdp_handles.specs.HandleTable.{HasRightLeft, reference_at}
use Rattle.fdp_pages.specs.PageTables.{PageTables, unit_of}
use Rattle.fdp_pages.proofs.LeftUnits.{updates-unit}
use Rattle.fdp_pages.proofs.pages.Pages.update.Goals as goal

pub returns-then-is_some : goal.returns-then-is_some
returns-then-is_some c =
    updates-unit c.args.self.now c.close.new.self c.args.rg c.args.ruh c.unit.result c.joined.ensures
    (subst (λ (x : PageTables). HasRightLeft x.handles.unit_pages (reference_at x.handles c.args.rg c.args.ruh)) c.self.view_is c.unit.ensures.right)
    (c.unit.ensures.value ∙ ap (λ (x : PageTables). unit_of x c.args.rg c.args.ruh) c.self.view_is) (sym c.is_some.ensures ∙ c.if-is_some.true) c.close.ensures
