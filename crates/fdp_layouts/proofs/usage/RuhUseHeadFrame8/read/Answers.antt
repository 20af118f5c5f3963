use Rattle.fdp_layouts.proofs.UsageApart.{ruh_use_head_by_numbers}
use Rattle.fdp_layouts.proofs.usage.RuhUseHeadFrame8.read.Goals as goal

pub returns-clause-known : goal.returns-clause-known
returns-clause-known c = ruh_use_head_by_numbers _
