use Rattle.std.proofs.Common.{◌≡◌, ◌++◌, ◌-◌, ◌*◌, ◌≤◌, length}
use Rattle.std.specs.List.{flat_map}
use Rattle.fdp_output.specs.Output.{pieces_of, block_line, block_lines}
use Rattle.fdp_trace.specs.Printer.{Extends}
use Rattle.fdp_trace.proofs.data.push_blocks.Given as goal

abbrev pub invariant-loop : goal.invariant-loop
invariant-loop l =
    (l.text.items ++ flat_map block_line (pieces_of (l.count - l.counter) l.size l.rest) ≡ l.fn.text.items ++ block_lines l.count l.bytes)
    × Extends l.fn.text.items l.text.items
    × ((l.count - l.counter) * l.size ≤ length l.rest)
