use Rattle.std.specs.Prelude.{◌≡◌, None, replicate}
use Rattle.fdp_tables.proofs.strip.absent_places.Given as goal

abbrev pub invariant-loop : goal.invariant-loop
invariant-loop l = l.places.items ≡ replicate l.counter None
