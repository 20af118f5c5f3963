use Rattle.std.proofs.Common.{All, take}
use Rattle.fdp_ranges.specs.Ranged.{IsRanged}
use Rattle.fdp_ranges.proofs.entries.are_ranged.Given as goal

abbrev pub invariant-loop-entry : goal.invariant-loop-entry
invariant-loop-entry l = All IsRanged (take l.entry-index l.entries)
