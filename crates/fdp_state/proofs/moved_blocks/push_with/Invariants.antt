use Rattle.std.proofs.Common.{◌≡◌, ◌++◌, map, take}
use Rattle.fdp_base.specs.declared.entry.BlockName.{BlockName}
use Rattle.fdp_state.proofs.moved_blocks.push_with.Given as goal

abbrev pub invariant-loop-block : goal.invariant-loop-block
invariant-loop-block l = l.moved.items ≡ l.initial.moved.items ++ map (λ (b : BlockName). (b, l.to)) (take l.block-index l.blocks)
