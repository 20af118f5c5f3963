use Rattle.std.proofs.Common.{◌≡◌, replicate, arith}
use Rattle.std.proofs.lemmas.Grind.{common_steps}
use Rattle.fdp_units.specs.DataUnits.{free_unit}
use Rattle.fdp_units.proofs.Groups.{kept-new}
use Rattle.fdp_units.proofs.group_units.GroupUnits.new.Goals as goal

pub invariant_of-result : goal.invariant_of-result
invariant_of-result c =
    let units : c.in_ok-units.units.items ≡ replicate c.args.count free_unit = grind (arith, common_steps) in
    kept-new c.args.unit_pages c.args.count c.in_ok-units.units.items c.in_ok-victims.victims c.in_ok-free.free c.requires.some c.requires.size units c.in_ok-victims.ensures c.in_ok-free.ensures
