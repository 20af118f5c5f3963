use Rattle.std.proofs.Common.{◌++◌, drop, flat_map}
use Rattle.fdp_output.specs.Output.{completion_of, queue_text}
use Rattle.fdp_printing.proofs.Printed.{IsPrinting}
use Rattle.fdp_printing.proofs.completions.print_queue.Given as goal

abbrev pub invariant-loop-entry : goal.invariant-loop-entry
invariant-loop-entry g l =
    IsPrinting (g.K.Sink.state l.fn.sink) (g.K.Sink.state l.sink) l.text.items
    (flat_map (completion_of l.queue) (drop l.entry-index l.entries)) (l.fn.text.items ++ queue_text l.entries l.queue)
