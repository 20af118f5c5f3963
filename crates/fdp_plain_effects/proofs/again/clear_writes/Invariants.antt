use Rattle.std.proofs.Common.{None}
use Rattle.fdp_tables.proofs.Walks.{IsMapped}
use Rattle.fdp_plain_effects.proofs.again.clear_writes.Given as goal

abbrev pub invariant-loop-going : goal.invariant-loop-going
invariant-loop-going l = IsMapped (λ x. None) l.fn.rows l.going-index l.rows
