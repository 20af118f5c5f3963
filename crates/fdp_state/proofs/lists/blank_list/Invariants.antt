use Rattle.fdp_state.proofs.Filling.{IsBlank}
use Rattle.fdp_state.proofs.lists.blank_list.Given as goal

abbrev pub invariant-loop-lba : goal.invariant-loop-lba
invariant-loop-lba l = IsBlank l.lba l.list.items
