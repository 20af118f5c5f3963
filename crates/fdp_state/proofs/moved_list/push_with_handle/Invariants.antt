use Rattle.std.proofs.Common.{◌≡◌, ◌++◌, take}
use Rattle.fdp_state.specs.Owners.{with_handle}
use Rattle.fdp_state.proofs.moved_list.push_with_handle.Given as goal

abbrev pub invariant-loop-block : goal.invariant-loop-block
invariant-loop-block l = l.moved.items ≡ l.initial.moved.items ++ with_handle l.handle (take l.block-index l.blocks)
