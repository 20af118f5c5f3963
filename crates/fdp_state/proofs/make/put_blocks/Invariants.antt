use Rattle.std.proofs.Common.{take}
use Rattle.fdp_image.specs.Checkpoint.{page_in_lists}
use Rattle.fdp_state.specs.Made.{HasPages}
use Rattle.fdp_state.specs.Owners.{with_pages}
use Rattle.fdp_state.proofs.make.put_blocks.Given as goal

abbrev pub invariant-loop-x : goal.invariant-loop-x
invariant-loop-x l = HasPages l.initial.parts l.parts (with_pages (page_in_lists l.initial.parts.pages.items) (take l.x-index l.blocks))
