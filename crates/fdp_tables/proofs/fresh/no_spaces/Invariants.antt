use Rattle.std.proofs.Common.{◌≡◌, None, replicate}
use Rattle.fdp_tables.proofs.fresh.no_spaces.Given as goal

abbrev pub invariant-loop : goal.invariant-loop
invariant-loop l = l.rows.items ≡ replicate l.counter None
