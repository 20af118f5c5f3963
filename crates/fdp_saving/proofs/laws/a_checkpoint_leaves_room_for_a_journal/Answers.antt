use Rattle.fdp_saving.proofs.Room.{checkpoint_room}
use Rattle.fdp_saving.proofs.laws.a_checkpoint_leaves_room_for_a_journal.Goals as goal

pub returns : goal.returns
returns c = checkpoint_room
