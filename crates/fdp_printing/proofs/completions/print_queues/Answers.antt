use Rattle.std.proofs.Common.{◌+◌, ◌-◌, ◌++◌, ap, flat_map, refl, arith}
use Rattle.fdp_base.specs.Numbers.{numbers_from}
use Rattle.fdp_output.specs.Output.{queue_text}
use Rattle.fdp_printing.proofs.Lists.{queues_first, queues_last, queues_next}
use Rattle.fdp_printing.proofs.Printed.{failed_with, printing_ends, printing_fails, printing_next, printing_none}
use Rattle.fdp_printing.proofs.completions.print_queues.Goals as goal

pub loop-index-init : goal.loop-index-init
loop-index-init g c =
    let before = c.args.text.now.items in
    let f = queue_text c.args.entries.now in
    let n = c.args.traces in
    printing_none (g.K.Sink.state c.args.sink.now) before _ (before ++ flat_map f (numbers_from 1 n)) (ap (λ t. before ++ t) (queues_first f n 0 refl))

pub returns-in_err-print_queue : goal.returns-in_err-print_queue
returns-in_err-print_queue g c =
    let f = queue_text c.args.entries.now in
    let n = c.args.traces in
    let i = c.loop-index.index in
    printing_fails (g.K.Sink.state c.args.sink.now) (g.K.Sink.state c.loop-index.sink) (g.K.Sink.state c.print_queue.new.sink)
    c.args.text.now.items c.loop-index.text.items c.print_queue.new.text.items (f (i + 1)) (flat_map f (numbers_from (1 + i) (n - i)))
    (flat_map f (numbers_from (1 + (i + 1)) (n - (i + 1)))) (flat_map f (numbers_from 1 n))
    c.in_err-print_queue.field-0.0 c.from_residual.result c.loop-index.invariant
    (queues_next f n i (omega arith)) c.in_err-print_queue.ensures (failed_with c.from_residual.result _ c.from_residual.ensures.1)

pub loop-index-preserved : goal.loop-index-preserved
loop-index-preserved g c =
    let f = queue_text c.args.entries.now in
    let n = c.args.traces in
    let i = c.loop-index.index in
    printing_next (g.K.Sink.state c.args.sink.now) (g.K.Sink.state c.loop-index.sink) (g.K.Sink.state c.print_queue.new.sink)
    c.loop-index.text.items c.print_queue.new.text.items (f (i + 1)) (flat_map f (numbers_from (1 + i) (n - i)))
    (flat_map f (numbers_from (1 + (i + 1)) (n - (i + 1)))) _ c.loop-index.invariant (queues_next f n i (omega arith)) c.in_ok-print_queue.ensures

pub returns : goal.returns
returns g c =
    let f = queue_text c.args.entries.now in
    let n = c.args.traces in
    let i = c.loop-index.index in
    printing_ends (g.K.Sink.state c.args.sink.now) (g.K.Sink.state c.loop-index.sink) c.args.text.now.items c.loop-index.text.items
    (flat_map f (numbers_from (1 + i) (n - i))) (flat_map f (numbers_from 1 n)) c.loop-index.invariant (queues_last f n i (omega arith))
