use Rattle.fdp_readings.proofs.Keeping.{erase-named, program-named, system-named}
use Rattle.fdp_readings.proofs.kept.calls_keep_named_pages.Goals as goal

pub returns-clause-system : goal.returns-clause-system
returns-clause-system c = system-named

pub returns-clause-program : goal.returns-clause-program
returns-clause-program c = program-named

pub returns-clause-erase : goal.returns-clause-erase
returns-clause-erase c = erase-named
