use Rattle.std.proofs.Common.{◌≡◌, ◌∙◌, List, ℕ, ap, arith, subst, sym}
use Rattle.std.specs.Prelude.{IfErr, OnOk}
use Rattle.fdp_output.specs.RunOutput.{output_of}
use Rattle.fdp_plain.specs.Run.{found_of}
use Rattle.fdp_audit.specs.Audit.{placed_from}
use Rattle.fdp_audit.specs.Steps.{IsOtherOutput}
use Rattle.fdp_audit.proofs.Verdicts.{begins-next, compared, cut-off, few-read, judged-no}
use Rattle.fdp_audit.proofs.verdict.judge_read.Goals as goal

pub judge-requires-clause-room : goal.judge-requires-clause-room
judge-requires-clause-room c = omega (arith, c.requires.room, few-read c.args.plain.now.config c.args.text.now c.args.read c.requires.printed)

pub returns-in-Err : goal.returns-in-Err
returns-in-Err c =
    let start = c.args.plain.now in
    let first = begins-next start c.requires.begins in
    judged-no start c.args.text.now (omega arith) (omega (arith, first, c.requires.room)) c.judge.new.plain c.args.read c.requires.printed c.requires.only c.in-Err.fault c.in-Err.ensures.illegal

pub returns-in-Ok : goal.returns-in-Ok
returns-in-Ok c =
    let start = c.args.plain.now in
    let text = c.args.text.now in
    let run = c.judge.new.plain in
    let first = begins-next start c.requires.begins in
    let cut = cut-off start.config text c.args.read c.requires.printed in
    compared start text (omega arith) (omega (arith, first, c.requires.room)) c.args.read c.requires.printed c.requires.only run c.in-Ok.ensures.same
    (c.in-Ok.ensures.whole ∙ ap (λ k. placed_from k run.entries) (sym first)) c.in-Ok.ensures.legal c.requires.valid.ranges.queues.0 c.compare.result
    (subst (λ (output : List ℕ). OnOk c.compare.result (output ≡ output_of run.config (found_of run) c.args.read.traces run.entries)) cut c.compare.ensures.same)
    (subst (λ (output : List ℕ). IfErr c.compare.result (IsOtherOutput run c.args.read.traces output)) cut c.compare.ensures.other)
