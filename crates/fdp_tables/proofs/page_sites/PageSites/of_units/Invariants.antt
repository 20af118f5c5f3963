use Rattle.fdp_tables.specs.PageSites.{AreInPlace}
use Rattle.fdp_tables.proofs.page_sites.PageSites.of_units.Given as goal

abbrev pub invariant-loop-unit : goal.invariant-loop-unit
invariant-loop-unit l = AreInPlace l.sites.rows l.unit l.pages
