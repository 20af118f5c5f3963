use Rattle.std.proofs.Common.{◌≡◌, ◌++◌}
use Rattle.std.specs.List.{flat_map}
use Rattle.fdp_base.specs.Numbers.{numbers_below}
use Rattle.fdp_trace.specs.Printer.{Extends}
use Rattle.fdp_trace.proofs.OwnData.{seed_line}
use Rattle.fdp_trace.proofs.own_data.push_pattern.Given as goal

abbrev pub invariant-loop-index : goal.invariant-loop-index
invariant-loop-index l = (l.text.items ≡ l.fn.text.items ++ flat_map (seed_line l.seed) (numbers_below l.index)) × Extends l.fn.text.items l.text.items
