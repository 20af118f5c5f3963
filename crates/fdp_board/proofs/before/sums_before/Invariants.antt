use Rattle.std.proofs.Common.{◌≡◌, ◌+◌, take}
use Rattle.fdp_rules.specs.Totals.{erases, media_blocks}
use Rattle.fdp_board.proofs.before.sums_before.Given as goal

abbrev pub invariant-loop-entry : goal.invariant-loop-entry
invariant-loop-entry l = record {
  hosts : l.before.host_blocks ≡ l.fn.totals.host_blocks;
  media : l.before.media_blocks + media_blocks (take l.entry-index l.entries) ≡ l.fn.totals.media_blocks;
  erased : l.before.erases + erases (take l.entry-index l.entries) ≡ l.fn.totals.erases;
}
