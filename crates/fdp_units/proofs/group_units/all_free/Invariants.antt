use Rattle.std.proofs.Common.{◌≡◌, ◌-◌, ◌++◌, None, Some, replicate}
use Rattle.fdp_units.proofs.group_units.all_free.Given as goal

abbrev pub invariant-loop-index : goal.invariant-loop-index
invariant-loop-index l = l.keys ≡ replicate l.index (Some 0) ++ replicate (l.fn.count - l.index) None
