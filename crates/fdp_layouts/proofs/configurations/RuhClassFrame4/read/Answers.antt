use Rattle.fdp_layouts.proofs.ConfigurationsApart.{ruh_class_by_numbers}
use Rattle.fdp_layouts.proofs.configurations.RuhClassFrame4.read.Goals as goal

pub returns-clause-known : goal.returns-clause-known
returns-clause-known c = ruh_class_by_numbers _
