use Rattle.std.proofs.Common.{arith}
use Rattle.fdp_base.specs.declared.entry.BlockName.{BlockName}
use Rattle.fdp_prints.specs.Told.{IsToldName}
use Rattle.fdp_ranges.proofs.Each.{each-one, one-more}
use Rattle.fdp_ranges.proofs.entries.are_blocks.Goals as goal

-- what the loop reads past the end
abbrev none : BlockName
none = record { nsid = 0; lba = 0 }

pub loop-block-preserved : goal.loop-block-preserved
loop-block-preserved c = one-more IsToldName c.args.blocks.now c.loop-block.block-index none (omega (arith, c.loop-block-test.true)) c.loop-block.invariant c.is_block.ensures

pub returns : goal.returns
returns c = each-one IsToldName c.args.blocks.now c.loop-block.block-index (omega (arith, c.loop-block-test.false)) c.loop-block.invariant
