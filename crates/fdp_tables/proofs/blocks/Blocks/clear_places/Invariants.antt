use Rattle.std.proofs.Common.{◌-◌}
use Rattle.fdp_base.specs.Numbers.{is_among}
use Rattle.fdp_tables.specs.Clearing.{IsCleared}
use Rattle.fdp_tables.proofs.blocks.Blocks.clear_places.Given as goal

abbrev pub invariant-loop-lba : goal.invariant-loop-lba
invariant-loop-lba l = IsCleared (is_among l.slba (l.lba - l.slba)) l.fn.self l.self
