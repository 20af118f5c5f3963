use Rattle.fdp_layouts.proofs.ConfigurationsApart.{config_head_by_numbers}
use Rattle.fdp_layouts.proofs.configurations.ConfigHeadFrame16.read.Goals as goal

pub returns-clause-known : goal.returns-clause-known
returns-clause-known c = config_head_by_numbers _
