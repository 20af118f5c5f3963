use Rattle.std.proofs.Common.{arith}
use Rattle.fdp_units.proofs.units.Units.groups.Goals as goal

pub overflow_cast-result : goal.overflow_cast-result
overflow_cast-result c = omega (arith, c.len.ensures, c.self.invariant.number)
