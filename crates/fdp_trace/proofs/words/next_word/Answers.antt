use Rattle.fdp_trace.proofs.Cutting.{next_cut, no_cut}
use Rattle.fdp_trace.proofs.words.next_word.Goals as goal

pub returns-then-end-eq0-clause-word : goal.returns-then-end-eq0-clause-word
returns-then-end-eq0-clause-word c =
    no_cut c.args.line.now c.skip_blanks-line.result.now c.word_len-end.result c.skip_blanks-line.ensures.words c.word_len-end.ensures c.if-end-eq0.true c.skip_blanks-line.ensures.begins

pub returns-clause-word : goal.returns-clause-word
returns-clause-word c =
    next_cut c.args.line.now c.skip_blanks-line.result.now c.word_len-end.result c.skip_blanks-line.ensures.words c.word_len-end.ensures c.if-end-eq0.false
