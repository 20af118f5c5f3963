use Rattle.std.proofs.Common.{◌+◌, ◌++◌, [], List, ℕ, ap, refl, subst, sym}
use Rattle.std.proofs.lemmas.List.{append-nil}
use Rattle.fdp_output.specs.HistoryText.{history_text}
use Rattle.fdp_printing.specs.Lines.{run_lines}
use Rattle.fdp_printing.specs.Printing.{Prints}
use Rattle.fdp_printing.proofs.Printed.{cut_within, failed_with, printing_next, printing_none, rest_written}
use Rattle.fdp_printing.proofs.Whole.{record_is}
use Rattle.fdp_printing.proofs.print.print_record.Goals as goal

pub returns-in_err-print_run-clause-ends : goal.returns-in_err-print_run-clause-ends
returns-in_err-print_run-clause-ends g c f closing =
    let old = g.K.Sink.state c.args.sink.now in
    let new = g.K.Sink.state c.print_run.new.sink in
    let buffer = c.new-text.result.items in
    let found = c.saturating_sub-found.result in
    let run = run_lines c.args.config.now c.args.traces c.args.entries.now c.args.closing.now in
    let history = history_text c.args.config.now.block (found + 1) c.args.entries.now in
    let start = printing_none old buffer (run ++ history) (run ++ history) (ap (λ (b : List ℕ). b ++ (run ++ history)) c.new-text.ensures.items) in
    let printed =
    cut_within old old new buffer run (run ++ history) history (run ++ history) c.in_err-print_run.field-0.0 c.from_residual.result start refl c.in_err-print_run.ensures
    (failed_with c.from_residual.result _ c.from_residual.ensures.1) in
    subst (λ (t : List ℕ). Prints old new t c.from_residual.result)
    (record_is c.args.config.now f c.args.traces found c.args.entries.now c.args.closing.now closing c.saturating_sub-found.ensures) printed

pub returns-in_err-print_history-clause-ends : goal.returns-in_err-print_history-clause-ends
returns-in_err-print_history-clause-ends g c f closing =
    let old = g.K.Sink.state c.args.sink.now in
    let mid = g.K.Sink.state c.print_run.new.sink in
    let new = g.K.Sink.state c.print_history.new.sink in
    let buffer = c.new-text.result.items in
    let found = c.saturating_sub-found.result in
    let run = run_lines c.args.config.now c.args.traces c.args.entries.now c.args.closing.now in
    let history = history_text c.args.config.now.block (found + 1) c.args.entries.now in
    let start = printing_none old buffer (run ++ history) (run ++ history) (ap (λ (b : List ℕ). b ++ (run ++ history)) c.new-text.ensures.items) in
    let went = printing_next old old mid buffer c.print_run.new.text.items run (run ++ history) history (run ++ history) start refl c.in_ok-print_run.ensures in
    let result = c.from_residual-in_err-print_history.result in
    let printed =
    cut_within old mid new c.print_run.new.text.items history history [] (run ++ history) c.in_err-print_history.field-0.0 result went (sym (append-nil history))
    c.in_err-print_history.ensures (failed_with result _ c.from_residual-in_err-print_history.ensures.1) in
    subst (λ (t : List ℕ). Prints old new t result)
    (record_is c.args.config.now f c.args.traces found c.args.entries.now c.args.closing.now closing c.saturating_sub-found.ensures) printed

pub returns-clause-ends : goal.returns-clause-ends
returns-clause-ends g c f closing =
    let old = g.K.Sink.state c.args.sink.now in
    let mid = g.K.Sink.state c.print_run.new.sink in
    let last = g.K.Sink.state c.print_history.new.sink in
    let new = g.K.Sink.state c.write_rest.new.sink in
    let buffer = c.new-text.result.items in
    let found = c.saturating_sub-found.result in
    let run = run_lines c.args.config.now c.args.traces c.args.entries.now c.args.closing.now in
    let history = history_text c.args.config.now.block (found + 1) c.args.entries.now in
    let start = printing_none old buffer (run ++ history) (run ++ history) (ap (λ (b : List ℕ). b ++ (run ++ history)) c.new-text.ensures.items) in
    let went = printing_next old old mid buffer c.print_run.new.text.items run (run ++ history) history (run ++ history) start refl c.in_ok-print_run.ensures in
    let told = printing_next old mid last c.print_run.new.text.items c.print_history.new.text.items history history [] (run ++ history) went (sym (append-nil history)) c.in_ok-print_history.ensures in
    let printed = rest_written old last new c.print_history.new.text.items c.write_rest.new.text.items (run ++ history) c.write_rest.result told c.write_rest.ensures.prints c.write_rest.ensures.empty in
    subst (λ (t : List ℕ). Prints old new t c.write_rest.result)
    (record_is c.args.config.now f c.args.traces found c.args.entries.now c.args.closing.now closing c.saturating_sub-found.ensures) printed
