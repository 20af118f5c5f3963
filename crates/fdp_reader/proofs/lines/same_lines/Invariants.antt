use Rattle.std.proofs.Common.{length}
use Rattle.fdp_reader.specs.Lines.{HaveLines}
use Rattle.fdp_reader.proofs.lines.same_lines.Given as goal

abbrev pub invariant-loop-line : goal.invariant-loop-line
invariant-loop-line l = HaveLines l.left l.right l.other l.rest

abbrev pub decreases-loop-line : goal.decreases-loop-line
decreases-loop-line l = length l.other
