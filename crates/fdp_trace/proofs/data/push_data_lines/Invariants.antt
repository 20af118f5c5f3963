use Rattle.std.proofs.Common.{◌≡◌, ◌++◌, ◌-◌, length}
use Rattle.std.specs.List.{flat_map}
use Rattle.fdp_output.specs.Output.{pieces_of, data_line, data_lines}
use Rattle.fdp_trace.specs.Printer.{Extends}
use Rattle.fdp_trace.proofs.data.push_data_lines.Given as goal

abbrev pub invariant-loop : goal.invariant-loop
invariant-loop l =
    (l.text.items ++ flat_map data_line (pieces_of (length l.bytes - l.counter) 32 l.rest) ≡ l.fn.text.items ++ data_lines l.bytes)
    × Extends l.fn.text.items l.text.items
