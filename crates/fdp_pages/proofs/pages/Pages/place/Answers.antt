use Rattle.std.proofs.Common.{ap, refl, sym, ◌∙◌, subst}
use Rattle.fdp_pages.specs.PageTables.{PageTables}
use Rattle.fdp_pages.specs.Steps.{MayPut, PutsPage}
use Rattle.fdp_pages.proofs.Next.{next-page}
use Rattle.fdp_pages.proofs.Placed.{put-joined, put-page, put-room}
use Rattle.fdp_pages.proofs.Recounting.{sized-same}
use Rattle.fdp_pages.proofs.Used.{changes-twice}
use Rattle.fdp_collector.proofs.Kept.{changed-here}
use Rattle.fdp_units.specs.declared.data_unit.DataUnit.{DataUnit}
use Rattle.fdp_units.specs.DataUnits.{raised}
use Rattle.fdp_units.specs.UnitTable.{Changes}
use Rattle.fdp_pages.proofs.pages.Pages.place.Goals as goal

pub use_next-requires-clause-unit : goal.use_next-requires-clause-unit
use_next-requires-clause-unit c =
    let t : PageTables = record { handles = c.self.inside.handles; units = c.self.inside.units; owners = c.self.inside.owners; passes = c.self.inside.passes.items } in
    let may : MayPut t c.args.rg c.args.ruh c.args.spot = subst (λ (x : PageTables). MayPut x c.args.rg c.args.ruh c.args.spot) (sym c.self.view_is) c.requires.page in
    (next-page t c.args.rg c.args.ruh c.args.spot c.self.invariant may).is_unit

pub use_next-requires-clause-state : goal.use_next-requires-clause-state
use_next-requires-clause-state c =
    let t : PageTables = record { handles = c.self.inside.handles; units = c.self.inside.units; owners = c.self.inside.owners; passes = c.self.inside.passes.items } in
    let may : MayPut t c.args.rg c.args.ruh c.args.spot = subst (λ (x : PageTables). MayPut x c.args.rg c.args.ruh c.args.spot) (sym c.self.view_is) c.requires.page in
    (next-page t c.args.rg c.args.ruh c.args.spot c.self.invariant may).state

pub raise-requires-clause-page : goal.raise-requires-clause-page
raise-requires-clause-page c =
    let t : PageTables = record { handles = c.self.inside.handles; units = c.self.inside.units; owners = c.self.inside.owners; passes = c.self.inside.passes.items } in
    let may : MayPut t c.args.rg c.args.ruh c.args.spot = subst (λ (x : PageTables). MayPut x c.args.rg c.args.ruh c.args.spot) (sym c.self.view_is) c.requires.page in
    put-room t c.args.rg c.args.ruh c.args.spot c.use_next.new.units c.self.invariant (next-page t c.args.rg c.args.ruh c.args.spot c.self.invariant may) c.use_next.ensures.unit

pub put-requires-clause-place : goal.put-requires-clause-place
put-requires-clause-place c =
    let t : PageTables = record { handles = c.self.inside.handles; units = c.self.inside.units; owners = c.self.inside.owners; passes = c.self.inside.passes.items } in
    let may : MayPut t c.args.rg c.args.ruh c.args.spot = subst (λ (x : PageTables). MayPut x c.args.rg c.args.ruh c.args.spot) (sym c.self.view_is) c.requires.page in
    put-page t c.args.rg c.args.ruh c.args.spot c.self.invariant (next-page t c.args.rg c.args.ruh c.args.spot c.self.invariant may)

pub invariant_of-self : goal.invariant_of-self
invariant_of-self c =
    let t : PageTables = record { handles = c.self.inside.handles; units = c.self.inside.units; owners = c.self.inside.owners; passes = c.self.inside.passes.items } in
    let may : MayPut t c.args.rg c.args.ruh c.args.spot = subst (λ (x : PageTables). MayPut x c.args.rg c.args.ruh c.args.spot) (sym c.self.view_is) c.requires.page in
    put-joined t c.self.invariant c.args.rg c.args.ruh c.args.spot c.args.owner may c.requires.owner c.use_next.new.units c.raise.new.self c.put.new.self c.place.new.self c.use_next.ensures.unit c.raise.ensures.unit c.raise.ensures.worn c.put.ensures.owners c.put.ensures.live (sized-same t.owners c.put.new.self c.put.ensures.rest c.put.ensures.size) (record { references = c.place.ensures.references; rest = c.place.ensures.rest })

pub returns : goal.returns
returns c =
    let t : PageTables = record { handles = c.self.inside.handles; units = c.self.inside.units; owners = c.self.inside.owners; passes = c.self.inside.passes.items } in
    let may : MayPut t c.args.rg c.args.ruh c.args.spot = subst (λ (x : PageTables). MayPut x c.args.rg c.args.ruh c.args.spot) (sym c.self.view_is) c.requires.page in
    subst (λ (x : PageTables). PutsPage x (record t { handles = c.place.new.self; units = c.raise.new.self; owners = c.put.new.self }) c.args.rg c.args.ruh c.args.spot c.args.owner) c.self.view_is (record {
      owners = c.put.ensures.owners;
      size = sized-same t.owners c.put.new.self c.put.ensures.rest c.put.ensures.size;
      unit = changes-twice t.units c.use_next.new.units c.raise.new.self c.args.spot.unit _ _ c.use_next.ensures.unit (subst (λ (z : DataUnit). Changes c.use_next.new.units c.raise.new.self c.args.spot.unit z) (ap raised (changed-here t.units c.use_next.new.units c.args.spot.unit _ c.use_next.ensures.unit)) c.raise.ensures.unit);
      worn = c.raise.ensures.worn ∙ c.use_next.ensures.worn;
      handles = record { references = c.place.ensures.references; rest = c.place.ensures.rest };
      passes = refl;
    })
