use Rattle.fdp_tables.specs.Spaces.{AreMade}
use Rattle.fdp_tables.specs.State.{going_of}
use Rattle.fdp_plain_effects.proofs.write.make_blocks.Given as goal

abbrev pub invariant-loop-index : goal.invariant-loop-index
invariant-loop-index l = AreMade l.block l.payload (going_of l.going) l.index l.made.items
