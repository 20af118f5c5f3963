use Rattle.std.proofs.Common.{◌≡◌, [], replicate}
use Rattle.fdp_tables.proofs.page_sites.PageSites.without_pages.Given as goal

abbrev pub invariant-loop : goal.invariant-loop
invariant-loop l = l.sites.rows ≡ replicate l.counter []
