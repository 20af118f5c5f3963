use Rattle.std.proofs.Common.{All, take}
use Rattle.fdp_prints.specs.Told.{IsToldName}
use Rattle.fdp_ranges.proofs.entries.are_blocks.Given as goal

abbrev pub invariant-loop-block : goal.invariant-loop-block
invariant-loop-block l = All IsToldName (take l.block-index l.blocks)
