use Rattle.std.proofs.Common.{length}
use Rattle.fdp_audit.proofs.Judging.{AreTaken}
use Rattle.fdp_audit.proofs.history.judge.Given as goal

abbrev pub invariant-loop-position : goal.invariant-loop-position
invariant-loop-position l = AreTaken l.fn.plain l.fn.entries.items (length l.yielded) l.plain l.due
