use Rattle.std.proofs.Common.{◌+◌, ◌++◌, ap, drop, refl, arith}
use Rattle.fdp_output.specs.HistoryText.{history_text}
use Rattle.fdp_printing.proofs.Lists.{history_first, history_last, history_next}
use Rattle.fdp_printing.proofs.Printed.{failed_with, printing_ends, printing_fails, printing_next, printing_none}
use Rattle.fdp_printing.proofs.history.print_history.Goals as goal

pub loop-index-init : goal.loop-index-init
loop-index-init g c =
    let before = c.args.text.now.items in
    let first = c.args.position + 1 in
    let es = c.args.entries.now in
    printing_none (g.K.Sink.state c.args.sink.now) before _ (before ++ history_text c.args.block first es) (ap (λ t. before ++ t) (history_first c.args.block es first 0 refl))

pub returns-in_err-print_entry : goal.returns-in_err-print_entry
returns-in_err-print_entry g c =
    let first = c.args.position + 1 in
    let es = c.args.entries.now in
    let i = c.loop-index.index in
    printing_fails (g.K.Sink.state c.args.sink.now) (g.K.Sink.state c.loop-index.sink) (g.K.Sink.state c.print_entry.new.sink)
    c.args.text.now.items c.loop-index.text.items c.print_entry.new.text.items _ (history_text c.args.block (first + i) (drop i es)) (history_text c.args.block (first + (i + 1)) (drop (i + 1) es)) (history_text c.args.block first es)
    c.in_err-print_entry.field-0.0 c.from_residual.result c.loop-index.invariant
    (history_next c.args.block es first i _ (omega arith) c.index-entries-index.is) c.in_err-print_entry.ensures (failed_with c.from_residual.result _ c.from_residual.ensures.1)

pub loop-index-preserved : goal.loop-index-preserved
loop-index-preserved g c =
    let first = c.args.position + 1 in
    let es = c.args.entries.now in
    let i = c.loop-index.index in
    printing_next (g.K.Sink.state c.args.sink.now) (g.K.Sink.state c.loop-index.sink) (g.K.Sink.state c.print_entry.new.sink)
    c.loop-index.text.items c.print_entry.new.text.items _ (history_text c.args.block (first + i) (drop i es)) (history_text c.args.block (first + (i + 1)) (drop (i + 1) es)) _ c.loop-index.invariant
    (history_next c.args.block es first i _ (omega arith) c.index-entries-index.is) c.in_ok-print_entry.ensures

pub returns : goal.returns
returns g c =
    let first = c.args.position + 1 in
    let es = c.args.entries.now in
    let i = c.loop-index.index in
    printing_ends (g.K.Sink.state c.args.sink.now) (g.K.Sink.state c.loop-index.sink) c.args.text.now.items c.loop-index.text.items
    (history_text c.args.block (first + i) (drop i es)) (history_text c.args.block first es) c.loop-index.invariant (history_last c.args.block es first i (omega arith))
