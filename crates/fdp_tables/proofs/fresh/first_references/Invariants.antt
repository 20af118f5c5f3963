use Rattle.std.proofs.Common.{◌≡◌, None, replicate}
use Rattle.fdp_tables.proofs.fresh.first_references.Given as goal

abbrev pub invariant-loop : goal.invariant-loop
invariant-loop l = l.rows.items ≡ replicate l.counter (record { unit = None; left = l.unit_pages })
