use Rattle.fdp_layouts.proofs.UsageApart.{ruh_use_by_numbers}
use Rattle.fdp_layouts.proofs.usage.RuhUseFrame8.read.Goals as goal

pub returns-clause-known : goal.returns-clause-known
returns-clause-known c = ruh_use_by_numbers _
