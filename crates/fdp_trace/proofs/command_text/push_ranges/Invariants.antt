use Rattle.std.proofs.Common.{◌≡◌, ◌++◌, take}
use Rattle.std.specs.Prelude.{flat_map}
use Rattle.fdp_output.specs.CommandText.{range_words}
use Rattle.fdp_trace.specs.Printer.{spaced_behind}
use Rattle.fdp_trace.specs.Printer.{Extends}
use Rattle.fdp_trace.proofs.command_text.push_ranges.Given as goal

abbrev pub invariant-loop-range : goal.invariant-loop-range
invariant-loop-range l = (l.text.items ≡ l.fn.text.items ++ spaced_behind (flat_map range_words (take l.range-index l.ranges))) × Extends l.fn.text.items l.text.items
