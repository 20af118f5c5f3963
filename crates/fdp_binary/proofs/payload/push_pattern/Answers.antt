use Rattle.fdp_binary.proofs.Blocks.{pattern-first, pattern-pushed}
use Rattle.fdp_binary.proofs.Laid.{grows, grows-none}
use Rattle.fdp_binary.proofs.payload.push_pattern.Goals as goal

pub loop-index-init : goal.loop-index-init
loop-index-init c = (pattern-first c.args.block c.args.seed c.args.into.now.items, grows-none c.args.into.now.items)

pub loop-index-preserved : goal.loop-index-preserved
loop-index-preserved c = (
  pattern-pushed c.args.block c.args.seed c.loop-index.index c.args.into.now.items c.loop-index.into.items _ c.loop-index.invariant.0 c.in_ok-push_block.ensures.ok,
  grows c.args.into.now.items c.loop-index.into.items _ _ c.loop-index.invariant.1 c.in_ok-push_block.ensures.ok,
)
