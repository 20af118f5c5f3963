use Rattle.std.proofs.Common.{◌≡◌, None, replicate}
use Rattle.fdp_tables.proofs.laid.no_sites.Given as goal

abbrev pub invariant-loop : goal.invariant-loop
invariant-loop l = l.pages.items ≡ replicate l.counter None
