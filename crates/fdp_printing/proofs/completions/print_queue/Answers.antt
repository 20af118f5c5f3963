use Rattle.std.proofs.Common.{◌+◌, ◌++◌, ◌∷◌, [], codes, ap, sym, ◌∙◌, append_assoc, drop, flat_map, decimal, arith}
use Rattle.fdp_base.specs.Text.{line}
use Rattle.fdp_output.specs.Output.{completion_of, queue_text}
use Rattle.fdp_printing.proofs.Lists.{lines_last, lines_next}
use Rattle.fdp_printing.proofs.Printed.{failed_with, printing_ends, printing_fails, printing_next, printing_none, pushed_of}
use Rattle.fdp_printing.proofs.completions.print_queue.Goals as goal

pub loop-entry-init : goal.loop-entry-init
loop-entry-init g c =
    let before = c.args.text.now.items in
    let lines = flat_map (completion_of c.args.queue) c.args.entries.now in
    let head = line (codes "queue" ∷ decimal c.args.queue ∷ []) in
    let pushed = pushed_of _ (sym c.is_err.ensures.value ∙ c.if-is_err.false) c.push_queue.ensures in
    printing_none (g.K.Sink.state c.args.sink.now) c.push_queue.new.into.items lines (before ++ queue_text c.args.entries.now c.args.queue)
    (ap (λ t. t ++ lines) pushed ∙ append_assoc before head lines)

pub returns-in_err-print_entry : goal.returns-in_err-print_entry
returns-in_err-print_entry g c =
    let es = c.args.entries.now in
    let f = completion_of c.args.queue in
    let i = c.loop-entry.entry-index in
    printing_fails (g.K.Sink.state c.args.sink.now) (g.K.Sink.state c.loop-entry.sink) (g.K.Sink.state c.print_entry.new.sink)
    c.args.text.now.items c.loop-entry.text.items c.print_entry.new.text.items _ (flat_map f (drop i es)) (flat_map f (drop (i + 1) es)) (queue_text es c.args.queue)
    c.in_err-print_entry.field-0.0 c.from_residual.result c.loop-entry.invariant
    (lines_next f es i _ (omega arith) c.entry-item.is) c.in_err-print_entry.ensures (failed_with c.from_residual.result _ c.from_residual.ensures.1)

pub loop-entry-preserved : goal.loop-entry-preserved
loop-entry-preserved g c =
    let es = c.args.entries.now in
    let f = completion_of c.args.queue in
    let i = c.loop-entry.entry-index in
    printing_next (g.K.Sink.state c.args.sink.now) (g.K.Sink.state c.loop-entry.sink) (g.K.Sink.state c.print_entry.new.sink)
    c.loop-entry.text.items c.print_entry.new.text.items _ (flat_map f (drop i es)) (flat_map f (drop (i + 1) es)) _ c.loop-entry.invariant
    (lines_next f es i _ (omega arith) c.entry-item.is) c.in_ok-print_entry.ensures

pub returns : goal.returns
returns g c =
    let es = c.args.entries.now in
    let f = completion_of c.args.queue in
    let i = c.loop-entry.entry-index in
    printing_ends (g.K.Sink.state c.args.sink.now) (g.K.Sink.state c.loop-entry.sink) c.args.text.now.items c.loop-entry.text.items (flat_map f (drop i es)) (queue_text es c.args.queue)
    c.loop-entry.invariant (lines_last f es i (omega arith))
