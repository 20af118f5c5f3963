use Rattle.fdp_roominess.proofs.Moved.{room-moved}
use Rattle.fdp_roominess.proofs.Relocated.{never-starves, room-copied, room-erased}
use Rattle.fdp_roominess.proofs.laws.relocation_keeps_room.Goals as goal

pub returns-clause-copied : goal.returns-clause-copied
returns-clause-copied c = λ t now rg from to x middle copy joined there rest is_due owned opened same adds. room-copied t now rg joined there rest from to x middle is_due owned opened copy same adds

pub returns-clause-moved : goal.returns-clause-moved
returns-clause-moved c = λ old new rg joined there is_due moves. room-moved old.pages new.pages rg joined there is_due moves.owners moves.units moves.passes

pub returns-clause-erased : goal.returns-clause-erased
returns-clause-erased c = λ t now rg unit joined there rest is_due passes becomes. room-erased t now rg joined there rest unit is_due passes becomes

pub returns-clause-starves : goal.returns-clause-starves
returns-clause-starves c = λ t rg from x p new joined there is_due owned starves room. never-starves t rg joined there from x p new is_due owned starves room
