use Rattle.std.proofs.Common.{refl, sym, subst}
use Rattle.fdp_pages.specs.PageTables.{PageTables}
use Rattle.fdp_pages.specs.Steps.{MayPut, ShutsUnit}
use Rattle.fdp_pages.proofs.Next.{next-page}
use Rattle.fdp_pages.proofs.Placed.{shut-joined}
use Rattle.fdp_pages.proofs.pages.Pages.shut.Goals as goal

pub waste_next-requires-clause-unit : goal.waste_next-requires-clause-unit
waste_next-requires-clause-unit c =
    let t : PageTables = record { handles = c.self.inside.handles; units = c.self.inside.units; owners = c.self.inside.owners; passes = c.self.inside.passes.items } in
    let may : MayPut t c.args.rg c.args.ruh c.args.spot = subst (λ (x : PageTables). MayPut x c.args.rg c.args.ruh c.args.spot) (sym c.self.view_is) c.requires.page in
    (next-page t c.args.rg c.args.ruh c.args.spot c.self.invariant may).is_unit

pub waste_next-requires-clause-state : goal.waste_next-requires-clause-state
waste_next-requires-clause-state c =
    let t : PageTables = record { handles = c.self.inside.handles; units = c.self.inside.units; owners = c.self.inside.owners; passes = c.self.inside.passes.items } in
    let may : MayPut t c.args.rg c.args.ruh c.args.spot = subst (λ (x : PageTables). MayPut x c.args.rg c.args.ruh c.args.spot) (sym c.self.view_is) c.requires.page in
    (next-page t c.args.rg c.args.ruh c.args.spot c.self.invariant may).state

pub invariant_of-self : goal.invariant_of-self
invariant_of-self c =
    let t : PageTables = record { handles = c.self.inside.handles; units = c.self.inside.units; owners = c.self.inside.owners; passes = c.self.inside.passes.items } in
    let may : MayPut t c.args.rg c.args.ruh c.args.spot = subst (λ (x : PageTables). MayPut x c.args.rg c.args.ruh c.args.spot) (sym c.self.view_is) c.requires.page in
    shut-joined t c.self.invariant c.args.rg c.args.ruh c.args.spot may c.waste_next.new.units c.shut.new.self c.waste_next.ensures.unit (record { references = c.shut.ensures.references; rest = c.shut.ensures.rest })

pub returns : goal.returns
returns c =
    let t : PageTables = record { handles = c.self.inside.handles; units = c.self.inside.units; owners = c.self.inside.owners; passes = c.self.inside.passes.items } in
    let may : MayPut t c.args.rg c.args.ruh c.args.spot = subst (λ (x : PageTables). MayPut x c.args.rg c.args.ruh c.args.spot) (sym c.self.view_is) c.requires.page in
    subst (λ (x : PageTables). ShutsUnit x (record t { handles = c.shut.new.self; units = c.waste_next.new.units }) c.args.rg c.args.ruh c.args.spot) c.self.view_is (record {
      owners = refl;
      unit = c.waste_next.ensures.unit;
      worn = c.waste_next.ensures.worn;
      handles = record { references = c.shut.ensures.references; rest = c.shut.ensures.rest };
      passes = refl;
    })
