use Rattle.std.proofs.Common.{◌≡◌, length}
use Rattle.std.specs.Vec.{vec_len, vec_capacity}
use Rattle.fdp_flash.specs.Noted.{AllOfSize}
use Rattle.fdp_flash.proofs.memory.room.call_blocks.Given as goal

abbrev pub invariant-loop : goal.invariant-loop
invariant-loop l = record {
  size : AllOfSize l.size l.blocks.items;
  many : length l.blocks.items ≡ l.counter;
  count : vec_len l.blocks ≡ l.counter;
  capacity : vec_capacity l.blocks ≡ l.count;
}
