use Rattle.fdp_tables.specs.PageSites.{changed_by}
use Rattle.fdp_tables.proofs.Walks.{IsMapped}
use Rattle.fdp_tables.proofs.site_change.change_pages.Given as goal

abbrev pub invariant-loop-page : goal.invariant-loop-page
invariant-loop-page l = IsMapped (changed_by l.change) l.fn.pages l.page-index l.pages
