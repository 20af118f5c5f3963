use Rattle.std.proofs.Common.{ℕ, List, [], ◌∷◌, ◌++◌, sym, ap, ◌∙◌}
use Rattle.std.specs.Result.{is_ok}
use Rattle.std.proofs.lemmas.Result.{err_from_is_err_and}
use Rattle.fdp_trace.specs.Words.{words_of}
use Rattle.fdp_trace.proofs.Fronts.{ranges_ok, ranges_err, ranges_odd, ranges_end}
use Rattle.fdp_trace.proofs.lists.are_ranges.Goals as goal

pub returns-in_default-next_word : goal.returns-in_default-next_word
returns-in_default-next_word c =
    let one = c.in-Some.ensures.word ∙ ap (λ (ws : List (List ℕ)). c.in-Some.slba.now ∷ ws) c.in_default-next_word.ensures.word in
    ranges_odd c.loop-slba.invariant.0 (words_of c.loop-slba.rest.now) c.in-Some.slba.now _ one c.loop-slba.invariant.1

pub returns-in_err-range : goal.returns-in_err-range
returns-in_err-range c =
    let p = err_from_is_err_and c.from_residual.result c.from_residual.ensures.1 in
    let two = c.in-Some.ensures.word ∙ ap (λ (ws : List (List ℕ)). c.in-Some.slba.now ∷ ws) c.in-Some-next_word.ensures.word in
    rw (p.1, p.2) (ranges_err c.in_err-range.field-0.0 c.loop-slba.invariant.0 (words_of c.loop-slba.rest.now) c.in-Some.slba.now c.in-Some-next_word.length.now (words_of c.in-Some-next_word.after.now) _ two (sym c.in_err-range.ensures) c.loop-slba.invariant.1)

pub loop-slba-preserved : goal.loop-slba-preserved
loop-slba-preserved c =
    let two = c.in-Some.ensures.word ∙ ap (λ (ws : List (List ℕ)). c.in-Some.slba.now ∷ ws) c.in-Some-next_word.ensures.word in (
      c.loop-slba.invariant.0 ++ c.in_ok-range.field-0 ∷ [],
      ranges_ok c.loop-slba.invariant.0 (words_of c.loop-slba.rest.now) c.in-Some.slba.now c.in-Some-next_word.length.now (words_of c.in-Some-next_word.after.now) c.in_ok-range.field-0 _ two (sym c.in_ok-range.ensures) c.loop-slba.invariant.1,
    )

pub returns : goal.returns
returns c = ap is_ok (ranges_end c.loop-slba.invariant.0 (words_of c.loop-slba.rest.now) _ c.in_default.ensures.word c.loop-slba.invariant.1)
