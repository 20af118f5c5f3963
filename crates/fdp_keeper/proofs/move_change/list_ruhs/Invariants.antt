use Rattle.std.proofs.Common.{◌≡◌, ◌≤◌, length, map, take, vec_capacity}
use Rattle.fdp_outline.specs.declared.moved_block.MovedBlock.{MovedBlock}
use Rattle.fdp_keeper.proofs.move_change.list_ruhs.Given as goal

abbrev pub invariant-loop-block : goal.invariant-loop-block
invariant-loop-block l = record {
  ruhs : l.ruhs.items ≡ map (λ (x : MovedBlock). x.ruh) (take l.block-index l.blocks);
  fits : length l.blocks ≤ vec_capacity l.ruhs;
  room : vec_capacity l.ruhs ≡ vec_capacity l.fn.ruhs;
}
