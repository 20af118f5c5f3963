use Rattle.std.proofs.Common.{◌≡◌, ◌++◌, take}
use Rattle.std.specs.Prelude.{map, decimal}
use Rattle.fdp_trace.specs.Printer.{spaced_behind}
use Rattle.fdp_trace.specs.Printer.{Extends}
use Rattle.fdp_trace.proofs.command_text.push_identifiers.Given as goal

abbrev pub invariant-loop-number : goal.invariant-loop-number
invariant-loop-number l = (l.text.items ≡ l.fn.text.items ++ spaced_behind (map decimal (take l.number-index l.numbers))) × Extends l.fn.text.items l.text.items
