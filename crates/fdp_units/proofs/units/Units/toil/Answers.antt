use Rattle.std.proofs.Common.{◌∙◌}
use Rattle.fdp_units.specs.UnitTable.{UnitTable}
use Rattle.fdp_units.proofs.Tables.{toil-told}
use Rattle.fdp_units.proofs.units.Units.toil.Goals as goal

pub returns : goal.returns
returns c =
    let t : UnitTable = record { unit_pages = c.self.inside.unit_pages; group_units = c.self.inside.group_units; groups = c.self.inside.groups.items } in
    c.toil.ensures ∙ toil-told t c.args.self.now c.args.rg c.index.result.now c.self.view_is c.self.invariant c.requires c.index.ensures
