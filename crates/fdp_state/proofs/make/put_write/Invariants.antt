use Rattle.std.proofs.Common.{◌+◌, ◌-◌, ◌^◌, ◌<◌}
use Rattle.std.specs.Prelude.{slice_get}
use Rattle.fdp_image.specs.Checkpoint.{page_in_lists}
use Rattle.fdp_state.specs.Made.{HasPages}
use Rattle.fdp_state.specs.Owners.{with_row}
use Rattle.fdp_state.proofs.make.put_write.Given as goal

abbrev pub invariant-loop-i : goal.invariant-loop-i
invariant-loop-i l =
    HasPages l.initial.parts l.parts (with_row (λ lba. slice_get l.pages (lba - l.slba)) (page_in_lists l.initial.parts.pages.items) l.nsid l.slba l.i) × (l.slba + l.i < 2 ^ 64)
