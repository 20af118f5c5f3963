use Rattle.std.proofs.Common.{◌≡◌, false, replicate}
use Rattle.fdp_tables.proofs.fresh.all_unset.Given as goal

abbrev pub invariant-loop : goal.invariant-loop
invariant-loop l = l.rows.items ≡ replicate l.counter false
