use Rattle.std.proofs.Common.{◌≡◌, ◌++◌, take}
use Rattle.std.specs.Prelude.{flat_map}
use Rattle.fdp_queues.specs.Data.{range_bytes, with_attributes}
use Rattle.fdp_binary.specs.Carrying.{Extends}
use Rattle.fdp_binary.proofs.data.push_ranges.Given as goal

abbrev pub invariant-loop-range : goal.invariant-loop-range
invariant-loop-range l =
    (l.into.items ≡ l.fn.into.items ++ flat_map (λ range. range_bytes (with_attributes 0 range)) (take l.range-index l.ranges))
    × Extends l.fn.into.items l.into.items
