use Rattle.std.proofs.Common.{length, arith}
use Rattle.std.proofs.lemmas.Slice.{between_to_end}
use Rattle.fdp_io.proofs.Written.{written_more}
use Rattle.fdp_io.proofs.sink.write_all.Goals as goal

pub loop-done-preserved : goal.loop-done-preserved
loop-done-preserved g c =
    written_more _ _ _ _ _ _ _ c.loop-done.invariant (between_to_end c.args.bytes.now c.loop-done.done (length c.args.bytes.now) (omega arith)) c.in-Took.ensures.told c.in-Took.ensures.counts c.in-Took.ensures.answer
