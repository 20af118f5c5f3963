use Rattle.std.proofs.Common.{refl, sym, ◌∙◌}
use Rattle.fdp_flash.proofs.Filled.{filled-zero, filled-more}
use Rattle.fdp_flash.proofs.memory.pages.clear_all.Goals as goal

pub loop-i-init : goal.loop-i-init
loop-i-init c = record {
  cells = sym (filled-zero _ _ _);
  blocks = λ size p. p;
  count = c.requires.blocks;
  size = refl;
}

pub loop-i-preserved : goal.loop-i-preserved
loop-i-preserved c = record {
  cells = c.clear.ensures.cells ∙ rw (c.loop-i.invariant.cells, filled-more c.args.first c.loop-i.i) refl;
  blocks = λ size p. c.clear.ensures.blocks size (c.loop-i.invariant.blocks size p);
  count = c.clear.auto.blocks ∙ c.loop-i.invariant.count ∙ sym c.clear.auto.cells;
  size = c.clear.auto.cells ∙ c.loop-i.invariant.size;
}
