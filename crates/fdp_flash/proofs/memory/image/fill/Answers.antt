use Rattle.std.proofs.Common.{refl, sym}
use Rattle.fdp_flash.proofs.Filled.{filled-zero, filled-more}
use Rattle.fdp_flash.proofs.memory.image.fill.Goals as goal

pub loop-i-init : goal.loop-i-init
loop-i-init c = sym (filled-zero _ _ _)

pub loop-i-preserved : goal.loop-i-preserved
loop-i-preserved c = rw (c.loop-i.invariant, c.unwritten_cell.ensures, filled-more c.args.first c.loop-i.i) refl
