use Rattle.std.proofs.Common.{[], ◌∷◌, ◌++◌, sym, ap}
use Rattle.std.specs.Result.{is_ok}
use Rattle.std.proofs.lemmas.Result.{err_from_is_err_and}
use Rattle.fdp_trace.specs.Words.{words_of}
use Rattle.fdp_trace.proofs.Fronts.{numbers_ok, numbers_err, numbers_end}
use Rattle.fdp_trace.proofs.lists.are_within.Goals as goal

pub returns-in_err-within : goal.returns-in_err-within
returns-in_err-within c =
    let p = err_from_is_err_and c.from_residual.result c.from_residual.ensures.1 in
    rw (p.1, p.2) (numbers_err c.in_err-within.field-0.0 c.args.high c.loop-word.invariant.0 (words_of c.loop-word.rest.now) c.in-Some.word.now (words_of c.in-Some.after.now) _ c.in-Some.ensures.word (sym c.in_err-within.ensures.value) c.loop-word.invariant.1)

pub loop-word-preserved : goal.loop-word-preserved
loop-word-preserved c = (
  c.loop-word.invariant.0 ++ c.in_ok-within.field-0 ∷ [],
  numbers_ok c.args.high c.loop-word.invariant.0 (words_of c.loop-word.rest.now) c.in-Some.word.now (words_of c.in-Some.after.now) c.in_ok-within.field-0 _ c.in-Some.ensures.word (sym c.in_ok-within.ensures.value) c.loop-word.invariant.1,
)

pub returns : goal.returns
returns c = ap is_ok (numbers_end c.args.high c.loop-word.invariant.0 (words_of c.loop-word.rest.now) _ c.in_default.ensures.word c.loop-word.invariant.1)
