use Rattle.std.proofs.Common.{◌+◌, ◌-◌, ◌++◌, flat_map}
use Rattle.fdp_base.specs.Numbers.{numbers_from}
use Rattle.fdp_output.specs.Output.{queue_text}
use Rattle.fdp_printing.proofs.Printed.{IsPrinting}
use Rattle.fdp_printing.proofs.completions.print_queues.Given as goal

abbrev pub invariant-loop-index : goal.invariant-loop-index
invariant-loop-index g l =
    IsPrinting (g.K.Sink.state l.fn.sink) (g.K.Sink.state l.sink) l.text.items
    (flat_map (queue_text l.entries) (numbers_from (1 + l.index) (l.traces - l.index)))
    (l.fn.text.items ++ flat_map (queue_text l.entries) (numbers_from 1 l.traces))
