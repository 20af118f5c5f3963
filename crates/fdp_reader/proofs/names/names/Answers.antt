use Rattle.std.proofs.Common.{◌∙◌, sym, ap}
use Rattle.std.specs.Prelude.{Ok}
use Rattle.std.proofs.lemmas.Result.{err_from_is_err_and}
use Rattle.fdp_trace.specs.Words.{words_of}
use Rattle.fdp_reader.proofs.Steps.{names-end, names-fault, names-step}
use Rattle.fdp_reader.proofs.names.names.Goals as goal

pub returns-in_err-name : goal.returns-in_err-name
returns-in_err-name c =
    let p = err_from_is_err_and c.from_residual.result c.from_residual.ensures.1 in
    rw (p.1, p.2)
    (names-fault c.loop-word.names.items c.in-Some.word.now (words_of c.in-Some.others.now) _ c.in_err-name.field-0.0 (sym c.in_err-name.ensures) (rw c.in-Some.ensures.word at c.loop-word.invariant))

pub loop-word-preserved : goal.loop-word-preserved
loop-word-preserved c =
    rw c.in_ok-push.ensures.items
    (names-step c.loop-word.names.items c.in_ok-name.name c.in-Some.word.now (words_of c.in-Some.others.now) _ (sym c.in_ok-name.ensures) (rw c.in-Some.ensures.word at c.loop-word.invariant))

pub returns : goal.returns
returns c = names-end c.loop-word.names.items (words_of c.loop-word.rest.now) _ c.in_default.ensures.word c.loop-word.invariant ∙ ap Ok (sym c.from_vec.ensures)
