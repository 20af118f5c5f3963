use Rattle.std.proofs.Common.{◌≡◌, ℕ, length}
use Rattle.fdp_flash.specs.Blocks.{HasBlocks, unwritten}
use Rattle.fdp_flash.specs.Recorded.{filled}
use Rattle.fdp_flash.proofs.memory.pages.clear_all.Given as goal

abbrev pub invariant-loop-i : goal.invariant-loop-i
invariant-loop-i l = record {
  cells : l.cells ≡ filled l.first l.i (unwritten l.torn) l.initial.cells;
  blocks : (size : ℕ) → HasBlocks size l.initial.cells l.initial.blocks → HasBlocks size l.cells l.blocks;
  count : length l.blocks ≡ length l.cells;
  size : length l.cells ≡ length l.initial.cells;
}
