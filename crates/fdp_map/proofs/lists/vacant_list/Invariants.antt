use Rattle.std.proofs.Common.{◌≡◌, None, replicate}
use Rattle.fdp_map.proofs.lists.vacant_list.Given as goal

abbrev pub invariant-loop : goal.invariant-loop
invariant-loop l = l.pages.items ≡ replicate l.counter None
