use Rattle.fdp_plain_effects.specs.Going.{counted}
use Rattle.fdp_tables.proofs.Walks.{IsMapped}
use Rattle.fdp_plain_effects.proofs.going.count_in.Given as goal

abbrev pub invariant-loop-going : goal.invariant-loop-going
invariant-loop-going l = IsMapped (counted l.ticket) l.fn.rows l.going-index l.rows
