use Rattle.fdp_tables.specs.Reports.{no_reports}
use Rattle.fdp_tables.proofs.Walks.{mapped_step}
use Rattle.fdp_plain_effects.proofs.feature.clear_reports.Goals as goal

pub loop-kept-preserved : goal.loop-kept-preserved
loop-kept-preserved c = mapped_step (λ x. no_reports) c.args.reports.now c.loop-kept.kept-index c.loop-kept.reports no_reports c.no_reports.result c.loop-kept-test.true c.loop-kept.invariant c.no_reports.ensures
