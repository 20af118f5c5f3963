use Rattle.fdp_units.specs.UnitTable.{UnitTable}
use Rattle.fdp_units.proofs.Tables.{changes-unit, worn-kept}
use Rattle.fdp_units.proofs.units.Units.set.Goals as goal

pub returns-clause-unit : goal.returns-clause-unit
returns-clause-unit c =
    let t : UnitTable = record { unit_pages = c.self.inside.unit_pages; group_units = c.self.inside.group_units; groups = c.self.inside.groups.items } in
    changes-unit t c.args.self.now c.args.unit c.args.now c.index_mut-group.result.now c.set.new.self c.self.view_is c.self.invariant c.requires.unit c.index_mut-group.ensures.value c.set.ensures

pub returns-clause-worn : goal.returns-clause-worn
returns-clause-worn c =
    let t : UnitTable = record { unit_pages = c.self.inside.unit_pages; group_units = c.self.inside.group_units; groups = c.self.inside.groups.items } in
    worn-kept t c.args.self.now c.args.unit c.args.now c.index_mut-group.result.now c.set.new.self c.self.view_is c.requires.unit c.index_mut-group.ensures.value c.set.ensures
