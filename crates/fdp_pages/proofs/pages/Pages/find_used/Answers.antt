use Rattle.std.proofs.Common.{refl, subst, sym}
use Rattle.std.specs.Prelude.{IsTrue}
use Rattle.fdp_pages.specs.Finding.{FindsUsed}
use Rattle.fdp_pages.specs.PageTables.{PageTables}
use Rattle.fdp_pages.proofs.Found.{found-changes, found-joined, may-turn-closed}
use Rattle.fdp_units.specs.DataUnits.{is_free}
use Rattle.fdp_units.specs.UnitTable.{IsUnit, state_at, unit_at}
use Rattle.fdp_pages.proofs.pages.Pages.find_used.Goals as goal

pub turn-requires-clause-unit : goal.turn-requires-clause-unit
turn-requires-clause-unit c = subst (λ (x : PageTables). IsUnit x.units c.args.unit) (sym c.self.view_is) c.requires.unit

pub turn-requires-clause-may : goal.turn-requires-clause-may
turn-requires-clause-may c =
    let t : PageTables = record { handles = c.self.inside.handles; units = c.self.inside.units; owners = c.self.inside.owners; passes = c.self.inside.passes.items } in
    may-turn-closed (unit_at t.units c.args.unit) (subst (λ (x : PageTables). IsTrue (is_free (state_at x.units c.args.unit))) (sym c.self.view_is) c.requires.free)

pub invariant_of-self : goal.invariant_of-self
invariant_of-self c =
    let t : PageTables = record { handles = c.self.inside.handles; units = c.self.inside.units; owners = c.self.inside.owners; passes = c.self.inside.passes.items } in
    let is = subst (λ (x : PageTables). IsUnit x.units c.args.unit) (sym c.self.view_is) c.requires.unit in
    let free = subst (λ (x : PageTables). IsTrue (is_free (state_at x.units c.args.unit))) (sym c.self.view_is) c.requires.free in
    found-joined t c.self.invariant c.args.unit is free c.turn.new.self (found-changes t.units c.turn.new.self c.args.unit free c.turn.ensures.unit)

pub returns : goal.returns
returns c =
    let t : PageTables = record { handles = c.self.inside.handles; units = c.self.inside.units; owners = c.self.inside.owners; passes = c.self.inside.passes.items } in
    let free = subst (λ (x : PageTables). IsTrue (is_free (state_at x.units c.args.unit))) (sym c.self.view_is) c.requires.free in
    subst (λ (x : PageTables). FindsUsed x (record t { units = c.turn.new.self }) c.args.unit) c.self.view_is (record {
      owners = refl;
      unit_is = found-changes t.units c.turn.new.self c.args.unit free c.turn.ensures.unit;
      worn = c.turn.ensures.worn;
      handles = refl;
      passes = refl;
    })
