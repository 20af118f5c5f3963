use Rattle.fdp_readings.proofs.Leading.{drawn-used}
use Rattle.fdp_readings.proofs.drawn.drawn_pages_were_used.Goals as goal

pub returns : goal.returns
returns c = drawn-used
