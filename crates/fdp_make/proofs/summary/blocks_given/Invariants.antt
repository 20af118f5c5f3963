use Rattle.fdp_make.specs.Summary.{blocks_given}
use Rattle.fdp_make.proofs.Summing.{IsSum}
use Rattle.fdp_make.proofs.summary.blocks_given.Given as goal

abbrev pub invariant-loop-entry : goal.invariant-loop-entry
invariant-loop-entry l = IsSum blocks_given 4294967295 l.entries l.entry-index l.blocks
