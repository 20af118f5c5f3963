use Rattle.fdp_tables.specs.PageSites.{IsLaid}
use Rattle.fdp_tables.proofs.page_sites.PageSites.add_unit.Given as goal

abbrev pub invariant-loop-page : goal.invariant-loop-page
invariant-loop-page l = IsLaid l.self.rows l.unit l.pages l.page
