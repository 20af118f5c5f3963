use Rattle.fdp_roominess.proofs.Begun.{fresh-room, opened-room}
use Rattle.fdp_roominess.proofs.laws.drives_begin_with_room.Goals as goal

pub returns-clause-fresh : goal.returns-clause-fresh
returns-clause-fresh c = fresh-room

pub returns-clause-opened : goal.returns-clause-opened
returns-clause-opened c = opened-room
