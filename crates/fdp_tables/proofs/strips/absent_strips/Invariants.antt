use Rattle.std.specs.Prelude.{◌≡◌, None, replicate}
use Rattle.fdp_tables.proofs.strips.absent_strips.Given as goal

abbrev pub invariant-loop : goal.invariant-loop
invariant-loop l = l.strips.items ≡ replicate l.counter None
