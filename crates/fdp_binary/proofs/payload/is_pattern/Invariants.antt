use Rattle.std.proofs.Common.{◌≡◌, ◌*◌, take}
use Rattle.fdp_queues.specs.Data.{pattern}
use Rattle.fdp_binary.proofs.payload.is_pattern.Given as goal

abbrev pub invariant-loop-index : goal.invariant-loop-index
invariant-loop-index l = take (l.index * l.block) l.body ≡ pattern l.block l.index l.seed
