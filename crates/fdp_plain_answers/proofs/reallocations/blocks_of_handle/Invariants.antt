use Rattle.fdp_rules.specs.Events.{is_of_handle}
use Rattle.fdp_tables.specs.State.{plain_of}
use Rattle.fdp_plain_answers.proofs.Choosing.{IsChoosing}
use Rattle.fdp_plain_answers.proofs.reallocations.blocks_of_handle.Given as goal

abbrev pub invariant-loop-block : goal.invariant-loop-block
invariant-loop-block l = IsChoosing (is_of_handle (plain_of l.kept) l.ruh) l.blocks l.block-index l.chosen.items
