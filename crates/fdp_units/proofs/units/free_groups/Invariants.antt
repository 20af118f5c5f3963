use Rattle.std.proofs.Common.{◌≡◌, replicate}
use Rattle.fdp_units.specs.GroupTable.{free_group}
use Rattle.fdp_units.proofs.units.free_groups.Given as goal

abbrev pub invariant-loop : goal.invariant-loop
invariant-loop l = l.groups.items ≡ replicate l.counter (free_group l.geometry.unit_pages l.geometry.units)
