use Rattle.std.proofs.Common.{◌++◌, flat_map, refl}
use Rattle.fdp_base.specs.Numbers.{numbers_from}
use Rattle.fdp_output.specs.Output.{queue_text}
use Rattle.fdp_printing.specs.Lines.{closing_lines, run_lines}
use Rattle.fdp_printing.proofs.Printed.{failed_with, printing_fails, printing_next, printing_none, step_ends}
use Rattle.fdp_printing.proofs.print.print_run.Goals as goal

pub returns-in_err-print_queues : goal.returns-in_err-print_queues
returns-in_err-print_queues g c =
    let before = c.args.text.now.items in
    let es = c.args.entries.now in
    let text = run_lines c.args.config.now c.args.traces es c.args.closing.now in
    let state = g.K.Sink.state c.args.sink.now in
    printing_fails state state (g.K.Sink.state c.print_queues.new.sink) before before c.print_queues.new.text.items
    (flat_map (queue_text es) (numbers_from 1 c.args.traces)) text (closing_lines c.args.config.now c.args.closing.now) text
    c.in_err-print_queues.field-0.0 c.from_residual.result (printing_none state before text (before ++ text) refl) refl
    c.in_err-print_queues.ensures (failed_with c.from_residual.result _ c.from_residual.ensures.1)

pub returns : goal.returns
returns g c =
    let before = c.args.text.now.items in
    let es = c.args.entries.now in
    let queues = flat_map (queue_text es) (numbers_from 1 c.args.traces) in
    let closing = closing_lines c.args.config.now c.args.closing.now in
    let text = run_lines c.args.config.now c.args.traces es c.args.closing.now in
    let state = g.K.Sink.state c.args.sink.now in
    let mid = g.K.Sink.state c.print_queues.new.sink in
    let went = printing_next state state mid before c.print_queues.new.text.items queues text closing (before ++ text) (printing_none state before text (before ++ text) refl) refl c.in_ok-print_queues.ensures in
    step_ends state mid (g.K.Sink.state c.print_closing.new.sink) c.print_queues.new.text.items c.print_closing.new.text.items closing before text c.print_closing.result went c.print_closing.ensures
