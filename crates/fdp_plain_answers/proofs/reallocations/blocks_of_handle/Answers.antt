use Rattle.std.proofs.Common.{arith}
use Rattle.fdp_rules.specs.Events.{is_of_handle}
use Rattle.fdp_tables.specs.State.{plain_of}
use Rattle.fdp_plain_answers.proofs.Choosing.{choosing_end, choosing_next}
use Rattle.fdp_plain_answers.proofs.reallocations.blocks_of_handle.Goals as goal

pub loop-block-preserved : goal.loop-block-preserved
loop-block-preserved c =
    choosing_next (is_of_handle (plain_of c.args.kept.now) c.args.ruh) c.args.blocks.now c.loop-block.block-index c.loop-block.chosen.items _ _ (omega arith) c.in_ok-choose_block.ensures c.loop-block.invariant

pub returns : goal.returns
returns c =
    choosing_end (is_of_handle (plain_of c.args.kept.now) c.args.ruh) c.args.blocks.now c.loop-block.block-index c.loop-block.chosen.items (omega arith) c.loop-block.invariant
