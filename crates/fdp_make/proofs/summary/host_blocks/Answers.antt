use Rattle.std.proofs.Common.{arith, ◌∙◌}
use Rattle.fdp_rules.specs.Totals.{host_blocks_of}
use Rattle.fdp_make.proofs.Summing.{sum_first, sum_next}
use Rattle.fdp_make.proofs.summary.host_blocks.Goals as goal

pub loop-entry-init : goal.loop-entry-init
loop-entry-init c = sum_first host_blocks_of 4294967295 c.args.entries.now

pub loop-entry-preserved : goal.loop-entry-preserved
loop-entry-preserved c =
    sum_next host_blocks_of 4294967295 c.args.entries.now c.loop-entry.entry-index c.loop-entry.blocks c.from-blocks.result c.entry-item.result c.loop-entry-test.true
    c.entry-item.is (c.from-blocks.ensures ∙ c.host_blocks_of.ensures) (omega (arith, c.from-blocks.ensures, c.host_blocks_of.type_inv)) c.loop-entry.invariant

pub overflow_add-blocks : goal.overflow_add-blocks
overflow_add-blocks c = omega (arith, c.loop-entry.invariant.bound)
