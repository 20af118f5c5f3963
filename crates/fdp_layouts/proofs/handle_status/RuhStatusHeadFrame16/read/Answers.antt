use Rattle.fdp_layouts.proofs.HandleStatusApart.{ruh_status_head_by_numbers}
use Rattle.fdp_layouts.proofs.handle_status.RuhStatusHeadFrame16.read.Goals as goal

pub returns-clause-known : goal.returns-clause-known
returns-clause-known c = ruh_status_head_by_numbers _
