use Rattle.std.proofs.Common.{map}
use Rattle.std.specs.Vec.{vec_items}
use Rattle.fdp_tables.proofs.Listing.{IsReached}
use Rattle.fdp_tables.proofs.index.reach.Given as goal

abbrev pub invariant-loop : goal.invariant-loop
invariant-loop l = IsReached (map vec_items l.fn.lists.items) (map vec_items l.lists.items) l.counter
