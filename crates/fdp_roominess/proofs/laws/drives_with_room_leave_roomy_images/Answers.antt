use Rattle.fdp_roominess.proofs.Images.{durable-roomy}
use Rattle.fdp_roominess.proofs.Reading.{drawn-room, room-roomy}
use Rattle.fdp_roominess.proofs.laws.drives_with_room_leave_roomy_images.Goals as goal

pub returns-clause-drawn : goal.returns-clause-drawn
returns-clause-drawn c = λ b r known drawn_is room. drawn-room b known r drawn_is room

pub returns-clause-roomy : goal.returns-clause-roomy
returns-clause-roomy c = room-roomy

pub returns-clause-durable : goal.returns-clause-durable
returns-clause-durable c = λ b s firm t cells known room cut sure h. durable-roomy b known room s firm t cut sure cells h
