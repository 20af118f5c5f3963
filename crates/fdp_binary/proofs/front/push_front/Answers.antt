use Rattle.fdp_binary.proofs.Laid.{on_ok}
use Rattle.fdp_binary.proofs.front.push_front.Goals as goal

pub returns-clause-fits : goal.returns-clause-fits
returns-clause-fits c = on_ok _ c.extend_from_slice-2.result c.encode.ensures.fits
