use Rattle.std.proofs.Common.{map}
use Rattle.fdp_rules.specs.Sites.{moved_by}
use Rattle.fdp_tables.specs.Copies.{copy_of}
use Rattle.fdp_tables.proofs.ListedRows.{IsListingPages}
use Rattle.fdp_tables.proofs.moving.list_row.Given as goal

abbrev pub invariant-loop-page : goal.invariant-loop-page
invariant-loop-page l = IsListingPages (moved_by (map copy_of l.pass)) l.unit l.ticket l.pages l.page-index l.fn.index l.index
