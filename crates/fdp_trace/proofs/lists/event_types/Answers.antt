use Rattle.std.proofs.Common.{◌∙◌, sym, ap}
use Rattle.std.proofs.lemmas.Result.{err_from_is_err_and}
use Rattle.std.specs.Prelude.{Ok}
use Rattle.fdp_trace.specs.Words.{words_of}
use Rattle.fdp_trace.proofs.Fronts.{numbers_ok, numbers_err, numbers_wanted, numbers_end}
use Rattle.fdp_trace.proofs.lists.event_types.Goals as goal

pub returns-in_err-number : goal.returns-in_err-number
returns-in_err-number c =
    let p = err_from_is_err_and c.from_residual-in_err-number.result c.from_residual-in_err-number.ensures.1 in
    rw (p.1, p.2) (numbers_err c.in_err-number.field-0.0 255 c.loop-word.numbers.items (words_of c.loop-word.rest.now) c.in-Some.word.now (words_of c.in-Some.after.now) _ c.in-Some.ensures.word (sym c.in_err-number.ensures.value) c.loop-word.invariant)

pub returns-in_err-push : goal.returns-in_err-push
returns-in_err-push c =
    let p = err_from_is_err_and c.from_residual-in_err-push.result c.from_residual-in_err-push.ensures.1 in
    rw (p.1, p.2) (numbers_wanted 255 c.loop-word.numbers.items (words_of c.loop-word.rest.now) c.in-Some.word.now (words_of c.in-Some.after.now) c.in_ok-number.number _ c.in-Some.ensures.word (sym c.in_ok-number.ensures.value) c.loop-word.invariant c.in_ok-are_within.ensures)

pub loop-word-preserved : goal.loop-word-preserved
loop-word-preserved c =
    rw c.in_ok-push.ensures.items (numbers_ok 255 c.loop-word.numbers.items (words_of c.loop-word.rest.now) c.in-Some.word.now (words_of c.in-Some.after.now) c.in_ok-number.number _ c.in-Some.ensures.word (sym c.in_ok-number.ensures.value) c.loop-word.invariant)

pub returns : goal.returns
returns c =
    numbers_end 255 c.loop-word.numbers.items (words_of c.loop-word.rest.now) _ c.in_default.ensures.word c.loop-word.invariant ∙ ap Ok (sym c.from_vec.ensures)
