use Rattle.std.proofs.Common.{◌≡◌, ◌++◌}
use Rattle.fdp_queues.specs.Data.{pattern}
use Rattle.fdp_binary.specs.Carrying.{Extends}
use Rattle.fdp_binary.proofs.payload.push_pattern.Given as goal

abbrev pub invariant-loop-index : goal.invariant-loop-index
invariant-loop-index l = (l.into.items ≡ l.fn.into.items ++ pattern l.block l.index l.seed) × Extends l.fn.into.items l.into.items
