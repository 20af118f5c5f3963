use Rattle.std.proofs.Common.{◌/◌, ◌-◌, ◌+◌, length, sym, ◌∙◌, arith}
use Rattle.fdp_output.specs.Output.{block_line}
use Rattle.fdp_trace.proofs.Printed.{extends_more, no_pieces, one_piece, no_piece, no_more, room, some_left, none_left}
use Rattle.fdp_trace.proofs.data.push_blocks.Goals as goal

pub returns-then-count-eq0-clause-ok : goal.returns-then-count-eq0-clause-ok
returns-then-count-eq0-clause-ok c = no_pieces block_line c.args.count _ c.args.bytes.now c.args.text.now.items c.if-count-eq0.true

pub loop-preserved : goal.loop-preserved
loop-preserved c =
    let size = length c.args.bytes.now / c.args.count in
    let left = c.args.count - (c.loop.counter + 1) in (
      rw (c.in_ok-push_block.ensures.ok, c.split_at.ensures.front, c.split_at.ensures.back)
          (one_piece block_line (c.args.count - c.loop.counter) left size c.loop.rest.now c.loop.text.items _ (omega arith) (some_left c.loop.rest.now (sym c.is_empty.ensures ∙ c.if-is_empty.false)) c.loop.invariant.0),
      extends_more c.args.text.now.items c.loop.text.items _ _ c.loop.invariant.1 c.in_ok-push_block.ensures.ok,
      room c.args.count c.loop.counter size (length c.loop.rest.now) (length c.split_at.result.1.now) c.loop-test.true c.loop.invariant.2 c.split_at.ensures.back_len,
    )

pub returns-after-loop-clause-ok : goal.returns-after-loop-clause-ok
returns-after-loop-clause-ok c = no_more block_line (c.args.count - c.loop.counter) _ c.loop.rest.now c.loop.text.items _ (omega arith) c.loop.invariant.0

pub returns-then-is_empty-clause-ok : goal.returns-then-is_empty-clause-ok
returns-then-is_empty-clause-ok c = no_piece block_line (c.args.count - c.loop.counter) _ c.loop.rest.now c.loop.text.items _ (none_left c.loop.rest.now (sym c.is_empty.ensures ∙ c.if-is_empty.true)) c.loop.invariant.0
