use Rattle.std.proofs.Common.{◌≡◌, ◌++◌, map, take}
use Rattle.fdp_output.specs.HistoryText.{block_word}
use Rattle.fdp_trace.specs.Printer.{spaced_behind}
use Rattle.fdp_printing.proofs.history.push_blocks.Given as goal

abbrev pub invariant-loop-block : goal.invariant-loop-block
invariant-loop-block l = l.into.items ≡ l.fn.into.items ++ spaced_behind (map block_word (take l.block-index l.blocks))
