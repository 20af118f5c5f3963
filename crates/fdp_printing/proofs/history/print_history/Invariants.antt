use Rattle.std.proofs.Common.{◌+◌, ◌++◌, drop}
use Rattle.fdp_output.specs.HistoryText.{history_text}
use Rattle.fdp_printing.proofs.Printed.{IsPrinting}
use Rattle.fdp_printing.proofs.history.print_history.Given as goal

abbrev pub invariant-loop-index : goal.invariant-loop-index
invariant-loop-index g l =
    IsPrinting (g.K.Sink.state l.fn.sink) (g.K.Sink.state l.sink) l.text.items
    (history_text l.block (l.position + 1 + l.index) (drop l.index l.entries)) (l.fn.text.items ++ history_text l.block (l.position + 1) l.entries)
