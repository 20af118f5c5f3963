use Rattle.fdp_readings.proofs.Commanding.{create-saved, dealloc-saved, delete-saved, kinds-saved, placement-saved, update-saved, zero-saved}
use Rattle.fdp_readings.proofs.commanded.saved_commands_are_drawn.Goals as goal

pub returns-clause-zero : goal.returns-clause-zero
returns-clause-zero c = zero-saved

pub returns-clause-dealloc : goal.returns-clause-dealloc
returns-clause-dealloc c = dealloc-saved

pub returns-clause-create : goal.returns-clause-create
returns-clause-create c = create-saved

pub returns-clause-delete : goal.returns-clause-delete
returns-clause-delete c = delete-saved

pub returns-clause-placement : goal.returns-clause-placement
returns-clause-placement c = placement-saved

pub returns-clause-kinds : goal.returns-clause-kinds
returns-clause-kinds c = kinds-saved

pub returns-clause-update : goal.returns-clause-update
returns-clause-update c = update-saved
