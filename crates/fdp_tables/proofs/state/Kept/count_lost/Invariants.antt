use Rattle.std.proofs.Common.{◌+◌, ◌*◌}
use Rattle.fdp_tables.specs.State.{plain_of}
use Rattle.fdp_tables.proofs.Counting.{IsCounting}
use Rattle.fdp_tables.proofs.state.Kept.count_lost.Given as goal

abbrev pub invariant-loop-i : goal.invariant-loop-i
invariant-loop-i l = IsCounting (λ i. (plain_of l.self).is_lost (l.rg * l.self.config.units + i)) l.self.config.units l.i l.lost
