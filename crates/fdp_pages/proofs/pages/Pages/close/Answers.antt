use Rattle.std.proofs.Common.{◌≡◌, ◌<◌, Option, Some, ℕ, refl, sym, ◌∙◌, subst, length}
use Rattle.std.specs.Prelude.{IfSome}
use Rattle.fdp_pages.specs.PageTables.{PageTables, unit_of}
use Rattle.fdp_pages.specs.Steps.{ClosesUnit}
use Rattle.fdp_pages.proofs.Placed.{let-go}
use Rattle.fdp_pages.proofs.pages.Pages.close.Goals as goal

pub close_open-requires-clause-unit : goal.close_open-requires-clause-unit
close_open-requires-clause-unit c =
    (c.self.invariant.filled.fills c.args.rg c.args.ruh c.in-Some.unit (sym c.unit.ensures.value ∙ c.in-Some.is)).stands.is_unit

pub invariant_of-self : goal.invariant_of-self
invariant_of-self c =
    let t : PageTables = record { handles = c.self.inside.handles; units = c.self.inside.units; owners = c.self.inside.owners; passes = c.self.inside.passes.items } in
    let own : unit_of t c.args.rg c.args.ruh ≡ Some c.in-Some.unit = sym c.unit.ensures.value ∙ c.in-Some.is in
    let is_handle : c.args.ruh < length t.handles.classes = subst (λ (x : PageTables). c.args.ruh < length x.handles.classes) (sym c.self.view_is) c.requires.handle in
    let-go t c.self.invariant c.args.rg c.args.ruh c.in-Some.unit own is_handle c.close_open.new.units c.shut.new.self c.close_open.ensures.unit (record { references = c.shut.ensures.references; rest = c.shut.ensures.rest })

pub returns : goal.returns
returns c =
    let t : PageTables = record { handles = c.self.inside.handles; units = c.self.inside.units; owners = c.self.inside.owners; passes = c.self.inside.passes.items } in
    let own : unit_of t c.args.rg c.args.ruh ≡ Some c.in-Some.unit = sym c.unit.ensures.value ∙ c.in-Some.is in
    let new : PageTables = record t { handles = c.shut.new.self; units = c.close_open.new.units } in
    let told : IfSome (unit_of t c.args.rg c.args.ruh) (λ (unit : ℕ). ClosesUnit t new c.args.rg c.args.ruh unit) =
    subst (λ (o : Option ℕ). IfSome o (λ (unit : ℕ). ClosesUnit t new c.args.rg c.args.ruh unit)) (sym own) (record {
      owners = refl;
      becomes = c.close_open.ensures.unit;
      worn = c.close_open.ensures.worn;
      handles = record { references = c.shut.ensures.references; rest = c.shut.ensures.rest };
      passes = refl;
    }) in
    subst (λ (x : PageTables). IfSome (unit_of x c.args.rg c.args.ruh) (λ (unit : ℕ). ClosesUnit x new c.args.rg c.args.ruh unit)) c.self.view_is told
