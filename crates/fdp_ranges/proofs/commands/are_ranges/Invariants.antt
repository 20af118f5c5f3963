use Rattle.std.proofs.Common.{All, take}
use Rattle.fdp_trace.specs.Typed.{IsTypedRange}
use Rattle.fdp_ranges.proofs.commands.are_ranges.Given as goal

abbrev pub invariant-loop-range : goal.invariant-loop-range
invariant-loop-range l = All IsTypedRange (take l.range-index l.ranges)
