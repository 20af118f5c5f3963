use Rattle.std.proofs.Common.{None}
use Rattle.fdp_tables.specs.PageSites.{changed_by}
use Rattle.fdp_tables.proofs.Walks.{mapped_step}
use Rattle.fdp_tables.proofs.site_change.change_pages.Goals as goal

pub loop-page-preserved : goal.loop-page-preserved
loop-page-preserved c = mapped_step (changed_by c.args.change) c.args.pages.now c.loop-page.page-index c.loop-page.pages None c.changed.result c.loop-page-test.true c.loop-page.invariant c.changed.ensures
