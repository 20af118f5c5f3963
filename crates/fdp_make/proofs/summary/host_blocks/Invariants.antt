use Rattle.fdp_rules.specs.Totals.{host_blocks_of}
use Rattle.fdp_make.proofs.Summing.{IsSum}
use Rattle.fdp_make.proofs.summary.host_blocks.Given as goal

abbrev pub invariant-loop-entry : goal.invariant-loop-entry
invariant-loop-entry l = IsSum host_blocks_of 4294967295 l.entries l.entry-index l.blocks
