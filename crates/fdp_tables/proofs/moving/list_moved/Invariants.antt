use Rattle.std.proofs.Common.{map, take}
use Rattle.std.specs.Vec.{vec_items}
use Rattle.fdp_rules.specs.Sites.{moved_by}
use Rattle.fdp_tables.specs.Copies.{copy_of}
use Rattle.fdp_tables.specs.PageSites.{site_in}
use Rattle.fdp_tables.proofs.ListedRows.{IsListingRows}
use Rattle.fdp_tables.proofs.moving.list_moved.Given as goal

abbrev pub invariant-loop-ticket : goal.invariant-loop-ticket
invariant-loop-ticket l = IsListingRows (moved_by (map copy_of l.pass)) l.unit (site_in (map vec_items l.rows)) (take l.ticket-index l.tickets) l.fn.index l.index
