use Rattle.fdp_readings.proofs.Keeping.{says-kept, shows-kept, valid-kept}
use Rattle.fdp_readings.proofs.kept.named_pages_keep_a_reading.Goals as goal

pub returns-clause-valid : goal.returns-clause-valid
returns-clause-valid c = valid-kept

pub returns-clause-shows : goal.returns-clause-shows
returns-clause-shows c = λ d f es r old new keeps h. shows-kept d r old new keeps f es h

pub returns-clause-says : goal.returns-clause-says
returns-clause-says c = λ d f es r old new keeps h. says-kept d r old new keeps f es h
