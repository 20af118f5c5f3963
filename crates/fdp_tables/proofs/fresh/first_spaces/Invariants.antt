use Rattle.fdp_tables.proofs.First.{IsLaying}
use Rattle.fdp_tables.proofs.fresh.first_spaces.Given as goal

abbrev pub invariant-loop-place : goal.invariant-loop-place
invariant-loop-place l = IsLaying l.namespaces l.place l.spaces.items
