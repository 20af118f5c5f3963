use Rattle.std.proofs.Common.{◌∙◌, sym}
use Rattle.fdp_units.specs.UnitTable.{UnitTable}
use Rattle.fdp_units.proofs.Tables.{lost-agrees, lost-told}
use Rattle.fdp_units.proofs.units.Units.lost.Goals as goal

pub returns-else-is_worn-clause-value : goal.returns-else-is_worn-clause-value
returns-else-is_worn-clause-value c =
    let t : UnitTable = record { unit_pages = c.self.inside.unit_pages; group_units = c.self.inside.group_units; groups = c.self.inside.groups.items } in
    c.lost_count.ensures ∙ lost-told t c.args.self.now c.args.rg c.index-group.result.now c.self.view_is c.self.invariant c.requires c.index-group.ensures (sym c.is_worn.ensures ∙ c.if-is_worn.false)

pub returns-else-is_worn-clause-state : goal.returns-else-is_worn-clause-state
returns-else-is_worn-clause-state c = λ configuration s agrees.
    let t : UnitTable = record { unit_pages = c.self.inside.unit_pages; group_units = c.self.inside.group_units; groups = c.self.inside.groups.items } in
    c.lost_count.ensures
    ∙ lost-told t c.args.self.now c.args.rg c.index-group.result.now c.self.view_is c.self.invariant c.requires c.index-group.ensures (sym c.is_worn.ensures ∙ c.if-is_worn.false)
    ∙ lost-agrees c.args.self.now configuration s c.args.rg c.requires agrees
