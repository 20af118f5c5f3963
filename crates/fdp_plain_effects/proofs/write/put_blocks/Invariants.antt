use Rattle.fdp_plain_effects.proofs.Putting.{IsPutting}
use Rattle.fdp_plain_effects.proofs.write.put_blocks.Given as goal

abbrev pub invariant-loop-block : goal.invariant-loop-block
invariant-loop-block l = IsPutting l.fn.made.items l.slba l.fn.blocks l.made.items l.blocks

abbrev pub decreases-loop-block : goal.decreases-loop-block
decreases-loop-block l = goal.left-loop-block l
