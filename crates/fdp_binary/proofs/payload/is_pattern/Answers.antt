use Rattle.fdp_binary.proofs.Blocks.{cut-is, cut-read, pattern-start}
use Rattle.fdp_binary.proofs.payload.is_pattern.Goals as goal

pub loop-index-init : goal.loop-index-init
loop-index-init c = pattern-start c.args.block c.args.seed c.args.body.now

pub returns-then-not-is_block : goal.returns-then-not-is_block
returns-then-not-is_block c = λ e. c.if-not-is_block.ensures (cut-is c.args.block c.args.count c.args.seed c.loop-index.index c.args.body.now c.requires.block c.requires.sized c.loop-index-test.true e)

pub loop-index-preserved : goal.loop-index-preserved
loop-index-preserved c = cut-read c.args.block c.args.count c.args.seed c.loop-index.index c.args.body.now c.requires.sized c.loop-index-test.true c.loop-index.invariant c.if-not-is_block.ensures
