use Rattle.std.proofs.Common.{◌≡◌, true, length, take}
use Rattle.fdp_image.specs.CheckpointFields.{are_rows}
use Rattle.fdp_outline.proofs.fresh.configured_rows.Given as goal

abbrev pub invariant-loop-index : goal.invariant-loop-index
invariant-loop-index l = record {
  rows : are_rows (take l.index l.configurations) l.rows.items ≡ true;
  count : length l.rows.items ≡ l.index;
}
