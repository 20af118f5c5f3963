use Rattle.std.proofs.Common.{◌≡◌, ◌^◌, min, take}
use Rattle.fdp_trace.specs.Numbers.{value_of}
use Rattle.fdp_trace.proofs.number.number_of_digits.Given as goal

abbrev pub invariant-loop-b : goal.invariant-loop-b
invariant-loop-b l = l.total ≡ min (2 ^ 64) (value_of l.radix (take l.b-index l.digits))
