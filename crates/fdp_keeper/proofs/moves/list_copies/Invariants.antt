use Rattle.std.proofs.Common.{◌≡◌, ◌≤◌, map, take, vec_capacity, vec_len}
use Rattle.fdp_owners.specs.OwnerTable.{owner_at}
use Rattle.fdp_durability.specs.fdp_readings.Changes.{copies_of_blocks}
use Rattle.fdp_keeper.specs.Moves.{moved_of}
use Rattle.fdp_keeper.proofs.moves.list_copies.Given as goal

abbrev pub invariant-loop-copy : goal.invariant-loop-copy
invariant-loop-copy l = record {
  copies : l.copies.items ≡ copies_of_blocks (owner_at l.pages.owners) (take l.copy-index l.copy-items);
  blocks : l.blocks.items ≡ map (moved_of (owner_at l.pages.owners)) (copies_of_blocks (owner_at l.pages.owners) (take l.copy-index l.copy-items));
  few : vec_len l.copies ≤ l.copy-index;
  few_too : vec_len l.blocks ≤ l.copy-index;
  room : vec_capacity l.copies ≡ vec_capacity l.fn.copies;
  room_too : vec_capacity l.blocks ≡ vec_capacity l.fn.blocks;
}
