use Rattle.std.specs.Int.{to_le_bytes, w32}
use Rattle.fdp_reader.proofs.Steps.{word-none, word-step}
use Rattle.fdp_reader.proofs.data.push_word.Goals as goal

pub loop-init : goal.loop-init
loop-init c = word-none (to_le_bytes w32 c.args.word) c.args.into.now.items

pub loop-preserved : goal.loop-preserved
loop-preserved c =
    rw (c.in_ok-extend_from_slice.ensures.items, c.to_le_bytes-bytes.ensures) (word-step c.loop.counter (to_le_bytes w32 c.args.word) c.loop.into.items c.args.into.now.items c.loop.invariant)
