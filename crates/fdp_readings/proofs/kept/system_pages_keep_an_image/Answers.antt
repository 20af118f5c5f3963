use Rattle.fdp_readings.proofs.Keeping.{current-kept, reads-kept}
use Rattle.fdp_readings.proofs.kept.system_pages_keep_an_image.Goals as goal

pub returns-clause-current : goal.returns-clause-current
returns-clause-current c = current-kept

pub returns-clause-reads : goal.returns-clause-reads
returns-clause-reads c = reads-kept
