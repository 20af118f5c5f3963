use Rattle.std.proofs.Common.{arith}
use Rattle.fdp_rules.specs.Effect.{is_in_ranges}
use Rattle.fdp_plain_effects.proofs.Stretches.{cleared_below}
use Rattle.fdp_plain_effects.proofs.blocks.clear_blocks.Goals as goal

pub returns-clause-rows : goal.returns-clause-rows
returns-clause-rows c = cleared_below c.args.blocks.now (is_in_ranges c.args.ranges.now) c.loop-lba.lba c.loop-lba.blocks (omega arith) c.loop-lba.invariant
