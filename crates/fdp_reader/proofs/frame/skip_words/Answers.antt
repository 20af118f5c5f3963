use Rattle.std.proofs.Common.{◌∙◌, sym, arith}
use Rattle.fdp_trace.specs.Words.{words_of}
use Rattle.fdp_reader.proofs.Steps.{skip-end, skip-step}
use Rattle.fdp_reader.proofs.frame.skip_words.Goals as goal

pub returns-in_default : goal.returns-in_default
returns-in_default c =
    c.in_default.ensures.word ∙ skip-end c.loop.counter c.args.count (words_of c.args.line.now) (omega (arith, c.loop-test.true)) (sym c.loop.invariant ∙ c.in_default.ensures.word)

pub loop-preserved : goal.loop-preserved
loop-preserved c =
    sym (skip-step c.loop.counter (words_of c.args.line.now) (words_of c.in-Some.others.now) c.in-Some.field-0-0.now (sym c.loop.invariant ∙ c.in-Some.ensures.word))
