use Rattle.std.proofs.Common.{◌∙◌}
use Rattle.fdp_units.specs.DataUnits.{is_free}
use Rattle.fdp_units.specs.UnitTable.{UnitTable}
use Rattle.fdp_units.proofs.Tables.{count-told}
use Rattle.fdp_units.proofs.units.Units.free_count.Goals as goal

pub returns : goal.returns
returns c =
    let t : UnitTable = record { unit_pages = c.self.inside.unit_pages; group_units = c.self.inside.group_units; groups = c.self.inside.groups.items } in
    c.free_count.ensures ∙ count-told t c.args.self.now c.args.rg c.index.result.now is_free c.self.view_is c.self.invariant c.requires c.index.ensures
