use Rattle.std.proofs.Common.{◌++◌, [], List, ℕ, ap, subst, sym}
use Rattle.std.proofs.lemmas.List.{append-nil}
use Rattle.fdp_printing.specs.Lines.{run_lines}
use Rattle.fdp_printing.specs.Printing.{Prints}
use Rattle.fdp_printing.proofs.Printed.{cut_within, failed_with, printing_next, printing_none, rest_written}
use Rattle.fdp_printing.proofs.Whole.{output_is}
use Rattle.fdp_printing.proofs.print.print_output.Goals as goal

pub returns-in_err-print_run-clause-ends : goal.returns-in_err-print_run-clause-ends
returns-in_err-print_run-clause-ends g c f closing =
    let old = g.K.Sink.state c.args.sink.now in
    let new = g.K.Sink.state c.print_run.new.sink in
    let buffer = c.new-text.result.items in
    let text = run_lines c.args.config.now c.args.traces c.args.entries.now c.args.closing.now in
    let start = printing_none old buffer text text (ap (λ (b : List ℕ). b ++ text) c.new-text.ensures.items) in
    let printed =
    cut_within old old new buffer text text [] text c.in_err-print_run.field-0.0 c.from_residual.result start (sym (append-nil text)) c.in_err-print_run.ensures
    (failed_with c.from_residual.result _ c.from_residual.ensures.1) in
    subst (λ (t : List ℕ). Prints old new t c.from_residual.result) (output_is c.args.config.now f c.args.traces c.args.entries.now c.args.closing.now closing) printed

pub returns-clause-ends : goal.returns-clause-ends
returns-clause-ends g c f closing =
    let old = g.K.Sink.state c.args.sink.now in
    let mid = g.K.Sink.state c.print_run.new.sink in
    let new = g.K.Sink.state c.write_rest.new.sink in
    let buffer = c.new-text.result.items in
    let text = run_lines c.args.config.now c.args.traces c.args.entries.now c.args.closing.now in
    let start = printing_none old buffer text text (ap (λ (b : List ℕ). b ++ text) c.new-text.ensures.items) in
    let run = printing_next old old mid buffer c.print_run.new.text.items text text [] text start (sym (append-nil text)) c.in_ok-print_run.ensures in
    let printed = rest_written old mid new c.print_run.new.text.items c.write_rest.new.text.items text c.write_rest.result run c.write_rest.ensures.prints c.write_rest.ensures.empty in
    subst (λ (t : List ℕ). Prints old new t c.write_rest.result) (output_is c.args.config.now f c.args.traces c.args.entries.now c.args.closing.now closing) printed
