use Rattle.fdp_layouts.proofs.RangeApart.{dsm_range_by_numbers}
use Rattle.fdp_layouts.proofs.range.DsmRangeFrame16.read.Goals as goal

pub returns-clause-known : goal.returns-clause-known
returns-clause-known c = dsm_range_by_numbers _
