use Rattle.fdp_tables.specs.State.{plain_of}
use Rattle.fdp_plain_effects.proofs.Features.{reports_set}
use Rattle.fdp_plain_effects.proofs.feature.report.Goals as goal

pub returns-clause-state : goal.returns-clause-state
returns-clause-state c =
    let k = c.args.kept.now in
    reports_set (plain_of k) k.reports.items c.args.ruh c.index.result.now c.reporting.result c.args.enable c.args.types.now c.requires c.index.ensures c.reporting.ensures
