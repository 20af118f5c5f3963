use Rattle.std.proofs.Common.{◌≡◌, ◌++◌, take}
use Rattle.fdp_base.specs.Text.{hex_bytes}
use Rattle.fdp_queues.specs.Data.{ranges_data}
use Rattle.fdp_trace.specs.Printer.{Extends}
use Rattle.fdp_trace.proofs.own_data.push_ranges.Given as goal

abbrev pub invariant-loop-range : goal.invariant-loop-range
invariant-loop-range l = (l.text.items ≡ l.fn.text.items ++ hex_bytes (ranges_data (take l.range-index l.ranges))) × Extends l.fn.text.items l.text.items
