use Rattle.fdp_readings.proofs.Passing.{copies-inside, copies-placed}
use Rattle.fdp_readings.proofs.saved.copies_of_blocks_have_known_handles.Goals as goal

pub returns-clause-inside : goal.returns-clause-inside
returns-clause-inside c = copies-inside

pub returns-clause-placed : goal.returns-clause-placed
returns-clause-placed c = copies-placed
