use Rattle.fdp_roominess.proofs.Answered.{room-answered, room-applied, room-started, room-written}
use Rattle.fdp_roominess.proofs.Placed.{room-placed}
use Rattle.fdp_roominess.proofs.laws.commands_keep_room.Goals as goal

pub returns-clause-answered : goal.returns-clause-answered
returns-clause-answered c = room-answered

pub returns-clause-written : goal.returns-clause-written
returns-clause-written c = room-written

pub returns-clause-applied : goal.returns-clause-applied
returns-clause-applied c = room-applied

pub returns-clause-started : goal.returns-clause-started
returns-clause-started c = room-started

pub returns-clause-placed : goal.returns-clause-placed
returns-clause-placed c = room-placed
