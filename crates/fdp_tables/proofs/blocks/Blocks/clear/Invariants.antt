use Rattle.std.proofs.Common.{◌-◌}
use Rattle.fdp_tables.proofs.Clearing.{IsClearing}
use Rattle.fdp_tables.proofs.blocks.Blocks.clear.Given as goal

abbrev pub decreases-loop-lba : goal.decreases-loop-lba
decreases-loop-lba l = l.end - l.lba

abbrev pub invariant-loop-lba : goal.invariant-loop-lba
invariant-loop-lba l = IsClearing l.fn.self l.slba l.end l.lba l.self
