use Rattle.fdp_layouts.proofs.EventsApart.{event_head_by_numbers}
use Rattle.fdp_layouts.proofs.events.EventHeadFrame64.read.Goals as goal

pub returns-clause-known : goal.returns-clause-known
returns-clause-known c = event_head_by_numbers _
