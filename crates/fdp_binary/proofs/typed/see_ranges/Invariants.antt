use Rattle.std.proofs.Common.{ℕ, ◌<◌, ◌^◌, slice_index_or}
use Rattle.fdp_base.specs.declared.command.Range.{Range}
use Rattle.fdp_binary.proofs.typed.see_ranges.Given as goal

abbrev pub invariant-loop-range : goal.invariant-loop-range
invariant-loop-range l = (k : ℕ) (d : Range) → k < l.range-index → ((slice_index_or l.ranges k d).length < 2 ^ 32) × ((slice_index_or l.ranges k d).slba < 2 ^ 64)
