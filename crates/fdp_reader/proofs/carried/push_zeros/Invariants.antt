use Rattle.std.proofs.Common.{◌≡◌, ◌++◌, replicate}
use Rattle.fdp_reader.proofs.carried.push_zeros.Given as goal

abbrev pub invariant-loop : goal.invariant-loop
invariant-loop l = l.into.items ≡ l.fn.into.items ++ replicate l.counter 0
