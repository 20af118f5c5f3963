use Rattle.fdp_worked.proofs.Read.{image-marked, queue_1-busy, queue_2-silent}
use Rattle.fdp_worked.proofs.rows.image_run_is_marked.Goals as goal

pub returns-clause-marks : goal.returns-clause-marks
returns-clause-marks c = image-marked

pub returns-clause-silent : goal.returns-clause-silent
returns-clause-silent c = queue_2-silent

pub returns-clause-busy : goal.returns-clause-busy
returns-clause-busy c = queue_1-busy
