use Rattle.std.proofs.Common.{◌∙◌, arith}
use Rattle.fdp_trace.proofs.Cutting.{words_step, shorter}
use Rattle.fdp_trace.proofs.words.skip_blanks.Goals as goal

pub loop-rest-preserved : goal.loop-rest-preserved
loop-rest-preserved c =
    (words_step c.loop-rest.rest.now (omega arith) (cc) ∙ c.loop-rest.invariant.0, shorter c.loop-rest.rest.now _ (omega arith) c.loop-rest.invariant.1)
