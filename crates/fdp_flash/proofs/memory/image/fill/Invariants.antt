use Rattle.std.proofs.Common.{◌≡◌}
use Rattle.fdp_flash.specs.Blocks.{unwritten}
use Rattle.fdp_flash.specs.Recorded.{filled}
use Rattle.fdp_flash.proofs.memory.image.fill.Given as goal

abbrev pub invariant-loop-i : goal.invariant-loop-i
invariant-loop-i l = l.cells ≡ filled l.first l.i (unwritten l.torn) l.initial.cells
