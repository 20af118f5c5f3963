use Rattle.fdp_tables.proofs.Lying.{IsLooking}
use Rattle.fdp_tables.proofs.blocks.Blocks.count_among.Given as goal

abbrev pub invariant-loop-index : goal.invariant-loop-index
invariant-loop-index l = IsLooking l.rg l.self l.slba l.count l.index l.lying
