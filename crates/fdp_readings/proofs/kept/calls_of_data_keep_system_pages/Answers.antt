use Rattle.fdp_readings.proofs.Keeping.{erase-system, program-system}
use Rattle.fdp_readings.proofs.kept.calls_of_data_keep_system_pages.Goals as goal

pub returns-clause-program : goal.returns-clause-program
returns-clause-program c = program-system

pub returns-clause-erase : goal.returns-clause-erase
returns-clause-erase c = erase-system
