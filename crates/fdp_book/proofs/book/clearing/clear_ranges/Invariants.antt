use Rattle.std.specs.Prelude.{take}
use Rattle.fdp_book.specs.Clearing.{Clears}
use Rattle.fdp_rules.specs.Effect.{is_in_ranges}
use Rattle.fdp_book.proofs.book.clearing.clear_ranges.Given as goal

abbrev pub invariant-loop-index : goal.invariant-loop-index
invariant-loop-index l = Clears l.nsid (is_in_ranges (take l.index l.ranges)) l.fn.map l.map l.fn.pages l.pages
