use Rattle.std.proofs.Common.{take}
use Rattle.fdp_plain_effects.proofs.Stretches.{AreCovered}
use Rattle.fdp_plain_effects.proofs.blocks.stretch_from.Given as goal

abbrev pub invariant-loop-range : goal.invariant-loop-range
invariant-loop-range l = AreCovered (take l.range-index l.ranges) l.lba l.held l.next
