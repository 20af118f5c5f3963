use Rattle.std.proofs.Common.{◌≡◌, [], map, replicate}
use Rattle.std.specs.Vec.{vec_items}
use Rattle.fdp_plain.proofs.reopen.no_copies.Given as goal

abbrev pub invariant-loop : goal.invariant-loop
invariant-loop l = map vec_items l.rows.items ≡ replicate l.counter []
