use Rattle.fdp_events.proofs.MaskBits.{known_none}
use Rattle.fdp_events.proofs.masks.no_reports.Goals as goal

pub returns-clause-known : goal.returns-clause-known
returns-clause-known c count = known_none 16 count
