use Rattle.fdp_readings.proofs.Staying.{shows-totals, valid-totals}
use Rattle.fdp_readings.proofs.lasting.later_totals_keep_a_reading.Goals as goal

pub returns-clause-shows : goal.returns-clause-shows
returns-clause-shows c = shows-totals

pub returns-clause-valid : goal.returns-clause-valid
returns-clause-valid c = valid-totals
