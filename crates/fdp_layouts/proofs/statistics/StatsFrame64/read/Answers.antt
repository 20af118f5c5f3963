use Rattle.fdp_layouts.proofs.StatisticsApart.{stats_by_numbers}
use Rattle.fdp_layouts.proofs.statistics.StatsFrame64.read.Goals as goal

pub returns-clause-known : goal.returns-clause-known
returns-clause-known c = stats_by_numbers _
