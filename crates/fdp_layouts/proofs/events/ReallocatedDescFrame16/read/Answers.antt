use Rattle.fdp_layouts.proofs.EventsApart.{reallocated_desc_by_numbers}
use Rattle.fdp_layouts.proofs.events.ReallocatedDescFrame16.read.Goals as goal

pub returns-clause-known : goal.returns-clause-known
returns-clause-known c = reallocated_desc_by_numbers _
