use Rattle.std.proofs.Common.{◌≡◌, ◌+◌, ◌*◌, ◌≤◌, drop}
use Rattle.fdp_snapshot.specs.Reading.{blocks_in}
use Rattle.fdp_snapshot.proofs.reading.end_of_blocks.Given as goal

abbrev pub invariant-loop-space : goal.invariant-loop-space
invariant-loop-space l = record {
  left : l.end + 4 * blocks_in (drop l.space-index l.spaces) ≡ 5120 + 4 * blocks_in l.spaces;
  within : l.end ≤ l.len;
}
