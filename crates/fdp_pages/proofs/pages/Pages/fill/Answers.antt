use Rattle.std.proofs.Common.{◌≡◌, ◌≤◌, ◌<◌, sym, subst, arith}
use Rattle.fdp_pages.specs.Filling.{MayFill}
use Rattle.fdp_pages.specs.PageTables.{PageTables}
use Rattle.fdp_pages.specs.Steps.{ChangesOwners, HasSize, Recounts}
use Rattle.fdp_pages.proofs.Filling.{fill-joined}
use Rattle.fdp_pages.proofs.Places.{place-there}
use Rattle.fdp_pages.proofs.Recounting.{changes-of, raised-recounts, room-for-one, sized-same}
use Rattle.fdp_units.specs.UnitTable.{unit_at}
use Rattle.fdp_pages.proofs.pages.Pages.fill.Goals as goal

pub put-requires-clause-place : goal.put-requires-clause-place
put-requires-clause-place c =
    let t : PageTables = record { handles = c.self.inside.handles; units = c.self.inside.units; owners = c.self.inside.owners; passes = c.self.inside.passes.items } in
    let may : MayFill t c.args.spot c.args.owner = subst (λ (x : PageTables). MayFill x c.args.spot c.args.owner) (sym c.self.view_is) c.requires in
    let used : c.args.spot.page < (unit_at t.units c.args.spot.unit).next = may.page.used in
    let within : (unit_at t.units c.args.spot.unit).next ≤ t.units.unit_pages = may.page.within in
    place-there t.units t.owners c.args.spot c.self.invariant.cut.owners may.page.is_unit (omega (arith, used, within))

pub put-requires-clause-free : goal.put-requires-clause-free
put-requires-clause-free c =
    let t : PageTables = record { handles = c.self.inside.handles; units = c.self.inside.units; owners = c.self.inside.owners; passes = c.self.inside.passes.items } in
    (subst (λ (x : PageTables). MayFill x c.args.spot c.args.owner) (sym c.self.view_is) c.requires).page.unowned

pub raise-requires-clause-unit : goal.raise-requires-clause-unit
raise-requires-clause-unit c = (subst (λ (x : PageTables). MayFill x c.args.spot c.args.owner) (sym c.self.view_is) c.requires).page.is_unit

pub raise-requires-clause-page : goal.raise-requires-clause-page
raise-requires-clause-page c =
    let t : PageTables = record { handles = c.self.inside.handles; units = c.self.inside.units; owners = c.self.inside.owners; passes = c.self.inside.passes.items } in
    let may : MayFill t c.args.spot c.args.owner = subst (λ (x : PageTables). MayFill x c.args.spot c.args.owner) (sym c.self.view_is) c.requires in
    let within : (unit_at t.units c.args.spot.unit).next ≤ t.units.unit_pages = may.page.within in
    let pages : t.owners.unit_pages ≡ t.units.unit_pages = c.self.invariant.cut.owners.unit_pages in
    room-for-one t.units t.owners c.args.spot c.self.invariant.live may.page.is_unit (omega (arith, within, pages)) may.page.used may.page.unowned

pub invariant_of-self : goal.invariant_of-self
invariant_of-self c =
    let t : PageTables = record { handles = c.self.inside.handles; units = c.self.inside.units; owners = c.self.inside.owners; passes = c.self.inside.passes.items } in
    let may : MayFill t c.args.spot c.args.owner = subst (λ (x : PageTables). MayFill x c.args.spot c.args.owner) (sym c.self.view_is) c.requires in
    let size : HasSize t.owners c.put.new.self = sized-same t.owners c.put.new.self c.put.ensures.rest c.put.ensures.size in
    let counts : Recounts t.units c.raise.new.self c.put.new.self = raised-recounts t.units c.raise.new.self t.owners c.put.new.self c.args.spot.unit c.self.invariant.live may.page.is_unit c.raise.ensures.unit c.raise.ensures.worn c.put.ensures.live in
    fill-joined t c.raise.new.self c.put.new.self c.args.spot c.args.owner may counts size c.put.ensures.owners c.self.invariant

pub returns-clause-rest : goal.returns-clause-rest
returns-clause-rest c =
    let t : PageTables = record { handles = c.self.inside.handles; units = c.self.inside.units; owners = c.self.inside.owners; passes = c.self.inside.passes.items } in
    let may : MayFill t c.args.spot c.args.owner = subst (λ (x : PageTables). MayFill x c.args.spot c.args.owner) (sym c.self.view_is) c.requires in
    let size : HasSize t.owners c.put.new.self = sized-same t.owners c.put.new.self c.put.ensures.rest c.put.ensures.size in
    let counts : Recounts t.units c.raise.new.self c.put.new.self = raised-recounts t.units c.raise.new.self t.owners c.put.new.self c.args.spot.unit c.self.invariant.live may.page.is_unit c.raise.ensures.unit c.raise.ensures.worn c.put.ensures.live in
    subst (λ (x : PageTables). ChangesOwners x (record t { units = c.raise.new.self; owners = c.put.new.self })) c.self.view_is (changes-of t c.raise.new.self c.put.new.self counts size)
