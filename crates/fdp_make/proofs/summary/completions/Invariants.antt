use Rattle.std.proofs.Common.{cond}
use Rattle.fdp_make.specs.Summary.{is_completion}
use Rattle.fdp_make.proofs.Summing.{IsSum}
use Rattle.fdp_make.proofs.summary.completions.Given as goal

abbrev pub invariant-loop-entry : goal.invariant-loop-entry
invariant-loop-entry l = IsSum (λ e. cond (is_completion e) 1 0) 1 l.entries l.entry-index l.count
