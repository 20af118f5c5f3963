use Rattle.fdp_readings.proofs.Staying.{drawn-still, shows-still}
use Rattle.fdp_readings.proofs.lasting.entries_that_leave_nothing_keep_a_reading.Goals as goal

pub returns-clause-shows : goal.returns-clause-shows
returns-clause-shows c = shows-still

pub returns-clause-drawn : goal.returns-clause-drawn
returns-clause-drawn c = drawn-still
