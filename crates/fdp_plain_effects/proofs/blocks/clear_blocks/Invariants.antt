use Rattle.std.proofs.Common.{◌-◌}
use Rattle.std.specs.Prelude.{◌&&◌, nat_lt}
use Rattle.fdp_rules.specs.Effect.{is_in_ranges}
use Rattle.fdp_tables.specs.Clearing.{IsCleared}
use Rattle.fdp_plain_effects.proofs.blocks.clear_blocks.Given as goal

abbrev pub decreases-loop-lba : goal.decreases-loop-lba
decreases-loop-lba l = l.size - l.lba

abbrev pub invariant-loop-lba : goal.invariant-loop-lba
invariant-loop-lba l = IsCleared (λ k. nat_lt k l.lba && is_in_ranges l.ranges k) l.fn.blocks l.blocks
