use Rattle.fdp_layouts.proofs.ConfigurationsApart.{config_desc_by_numbers}
use Rattle.fdp_layouts.proofs.configurations.ConfigDescFrame64.read.Goals as goal

pub returns-clause-known : goal.returns-clause-known
returns-clause-known c = config_desc_by_numbers _
