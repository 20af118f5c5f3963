-- What a keeper keeps ready, so that no saving takes memory.
use Rattle.std.specs.Prelude.{◌≤◌, vec_capacity}
use Rattle.fdp_keeper.specs.declared.change_room.ChangeRoom.{ChangeRoom}

-- there is room for the blocks of a move
pub record IsReady (room : ChangeRoom) : Type 0 where
  pub ruhs : 256 ≤ vec_capacity room.ruhs
  pub copies : 256 ≤ vec_capacity room.copies
  pub blocks : 256 ≤ vec_capacity room.blocks
