use Rattle.std.proofs.Common.{take}
use Rattle.fdp_image.specs.Checkpoint.{page_in_lists}
use Rattle.fdp_state.specs.Made.{HasPages}
use Rattle.fdp_state.specs.Owners.{without_ranges}
use Rattle.fdp_state.proofs.make.clear.Given as goal

abbrev pub invariant-loop-range : goal.invariant-loop-range
invariant-loop-range l = HasPages l.initial.parts l.parts (without_ranges (page_in_lists l.initial.parts.pages.items) l.nsid (take l.range-index l.ranges))
