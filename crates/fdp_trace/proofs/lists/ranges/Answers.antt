use Rattle.std.proofs.Common.{◌∷◌, List, ℕ, ◌∙◌, sym, ap}
use Rattle.std.proofs.lemmas.Result.{err_from_is_err_and}
use Rattle.std.specs.Prelude.{Ok}
use Rattle.fdp_trace.specs.Words.{words_of}
use Rattle.fdp_trace.proofs.Fronts.{ranges_ok, ranges_err, ranges_wanted, ranges_odd, ranges_end}
use Rattle.fdp_trace.proofs.lists.ranges.Goals as goal

pub returns-in_default-next_word : goal.returns-in_default-next_word
returns-in_default-next_word c =
    let one = c.in-Some.ensures.word ∙ ap (λ (ws : List (List ℕ)). c.in-Some.slba.now ∷ ws) c.in_default-next_word.ensures.word in
    ranges_odd c.loop-slba.ranges.items (words_of c.loop-slba.rest.now) c.in-Some.slba.now _ one c.loop-slba.invariant

pub returns-in_err-range : goal.returns-in_err-range
returns-in_err-range c =
    let p = err_from_is_err_and c.from_residual-in_err-range.result c.from_residual-in_err-range.ensures.1 in
    let two = c.in-Some.ensures.word ∙ ap (λ (ws : List (List ℕ)). c.in-Some.slba.now ∷ ws) c.in-Some-next_word.ensures.word in
    rw (p.1, p.2) (ranges_err c.in_err-range.field-0.0 c.loop-slba.ranges.items (words_of c.loop-slba.rest.now) c.in-Some.slba.now c.in-Some-next_word.length.now (words_of c.in-Some-next_word.after.now) _ two (sym c.in_err-range.ensures) c.loop-slba.invariant)

pub returns-in_err-push : goal.returns-in_err-push
returns-in_err-push c =
    let p = err_from_is_err_and c.from_residual-in_err-push.result c.from_residual-in_err-push.ensures.1 in
    let two = c.in-Some.ensures.word ∙ ap (λ (ws : List (List ℕ)). c.in-Some.slba.now ∷ ws) c.in-Some-next_word.ensures.word in
    rw (p.1, p.2) (ranges_wanted c.loop-slba.ranges.items (words_of c.loop-slba.rest.now) c.in-Some.slba.now c.in-Some-next_word.length.now (words_of c.in-Some-next_word.after.now) c.in_ok-range.range _ two (sym c.in_ok-range.ensures) c.loop-slba.invariant c.in_ok-are_ranges.ensures)

pub loop-slba-preserved : goal.loop-slba-preserved
loop-slba-preserved c =
    let two = c.in-Some.ensures.word ∙ ap (λ (ws : List (List ℕ)). c.in-Some.slba.now ∷ ws) c.in-Some-next_word.ensures.word in
    rw c.in_ok-push.ensures.items (ranges_ok c.loop-slba.ranges.items (words_of c.loop-slba.rest.now) c.in-Some.slba.now c.in-Some-next_word.length.now (words_of c.in-Some-next_word.after.now) c.in_ok-range.range _ two (sym c.in_ok-range.ensures) c.loop-slba.invariant)

pub returns : goal.returns
returns c =
    ranges_end c.loop-slba.ranges.items (words_of c.loop-slba.rest.now) _ c.in_default.ensures.word c.loop-slba.invariant ∙ ap Ok (sym c.from_vec.ensures)
