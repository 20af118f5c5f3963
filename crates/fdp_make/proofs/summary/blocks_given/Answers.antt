use Rattle.std.proofs.Common.{arith, ◌∙◌}
use Rattle.fdp_make.specs.Summary.{blocks_given}
use Rattle.fdp_make.proofs.Summing.{sum_end, sum_first, sum_next}
use Rattle.fdp_make.proofs.summary.blocks_given.Goals as goal

pub loop-entry-init : goal.loop-entry-init
loop-entry-init c = sum_first blocks_given 4294967295 c.args.entries.now

pub loop-entry-preserved : goal.loop-entry-preserved
loop-entry-preserved c =
    sum_next blocks_given 4294967295 c.args.entries.now c.loop-entry.entry-index c.loop-entry.blocks c.from-blocks.result c.entry-item.result c.loop-entry-test.true
    c.entry-item.is (c.from-blocks.ensures ∙ c.blocks_given_by.ensures) (omega (arith, c.from-blocks.ensures, c.blocks_given_by.type_inv)) c.loop-entry.invariant

pub overflow_add-blocks : goal.overflow_add-blocks
overflow_add-blocks c = omega (arith, c.loop-entry.invariant.bound)

pub returns : goal.returns
returns c = sum_end blocks_given 4294967295 c.args.entries.now c.loop-entry.entry-index c.loop-entry.blocks c.loop-entry-test.false c.loop-entry.invariant
