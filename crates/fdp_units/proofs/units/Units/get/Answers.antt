use Rattle.std.proofs.Common.{subst, sym}
use Rattle.fdp_units.specs.UnitTable.{IsGroup, IsUnit, UnitTable, group_in}
use Rattle.fdp_units.proofs.Tables.{group-there, sound-read}
use Rattle.fdp_units.proofs.units.Units.get.Goals as goal

pub returns-clause-sound : goal.returns-clause-sound
returns-clause-sound c =
    let t : UnitTable = record { unit_pages = c.self.inside.unit_pages; group_units = c.self.inside.group_units; groups = c.self.inside.groups.items } in
    let there : IsUnit t c.args.unit = subst (λ (x : UnitTable). IsUnit x c.args.unit) (sym c.self.view_is) c.requires in
    sound-read t c.args.self.now (group_in t c.args.unit) c.index.result.now c.get.result c.self.view_is c.self.invariant (subst (λ (x : UnitTable). IsGroup x (group_in t c.args.unit)) c.self.view_is (group-there t c.args.unit there)) c.index.ensures c.get.ensures.sound
