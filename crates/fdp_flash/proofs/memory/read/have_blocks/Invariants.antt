use Rattle.std.proofs.Common.{take}
use Rattle.fdp_flash.specs.Cells.{HaveBytes}
use Rattle.fdp_flash.proofs.memory.read.have_blocks.Given as goal

abbrev pub invariant-loop-cell : goal.invariant-loop-cell
invariant-loop-cell l = HaveBytes l.size (take l.cell-index l.cells)
