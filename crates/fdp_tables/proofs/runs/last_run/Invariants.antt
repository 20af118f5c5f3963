use Rattle.fdp_tables.proofs.Walks.{IsShortening}
use Rattle.fdp_tables.proofs.runs.last_run.Given as goal

abbrev pub invariant-loop-start : goal.invariant-loop-start
invariant-loop-start l = IsShortening l.copies l.start
