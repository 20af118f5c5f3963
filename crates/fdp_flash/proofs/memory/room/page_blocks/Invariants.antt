use Rattle.std.proofs.Common.{◌≡◌, length, take}
use Rattle.std.specs.Vec.{vec_len, vec_capacity}
use Rattle.fdp_flash.specs.Blocks.{HasBlocks}
use Rattle.fdp_flash.proofs.memory.room.page_blocks.Given as goal

abbrev pub invariant-loop-cell : goal.invariant-loop-cell
invariant-loop-cell l = record {
  blocks : HasBlocks l.size (take l.cell-index l.cells) l.blocks.items;
  count : vec_len l.blocks ≡ l.cell-index;
  capacity : vec_capacity l.blocks ≡ length l.cells;
}
