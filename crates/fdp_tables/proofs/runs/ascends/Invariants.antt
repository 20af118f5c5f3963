use Rattle.fdp_tables.proofs.Walks.{IsAscending}
use Rattle.fdp_tables.proofs.runs.ascends.Given as goal

abbrev pub invariant-loop-next : goal.invariant-loop-next
invariant-loop-next l = IsAscending l.copies l.next
