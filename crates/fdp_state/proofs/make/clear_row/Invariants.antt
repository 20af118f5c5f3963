use Rattle.std.proofs.Common.{◌+◌, ◌^◌, ◌<◌, None}
use Rattle.fdp_image.specs.Checkpoint.{page_in_lists}
use Rattle.fdp_state.specs.Made.{HasPages}
use Rattle.fdp_state.specs.Owners.{with_row}
use Rattle.fdp_state.proofs.make.clear_row.Given as goal

abbrev pub invariant-loop-i : goal.invariant-loop-i
invariant-loop-i l = HasPages l.initial.parts l.parts (with_row (λ lba. None) (page_in_lists l.initial.parts.pages.items) l.nsid l.slba l.i) × (l.slba + l.i < 2 ^ 64)
