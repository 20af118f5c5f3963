use Rattle.std.proofs.Common.{length}
use Rattle.fdp_outline.proofs.moved_block.+first_of.Given as goal

abbrev pub decreases-first_of : goal.decreases-first_of
decreases-first_of l = length l.blocks.now
