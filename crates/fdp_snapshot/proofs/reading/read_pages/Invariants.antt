use Rattle.std.proofs.Common.{◌≡◌, ◌+◌, ◌*◌, ◌++◌, drop}
use Rattle.std.specs.Prelude.{map}
use Rattle.fdp_snapshot.specs.Reading.{blocks_in, page_lists, size_of_row}
use Rattle.fdp_snapshot.proofs.reading.read_pages.Given as goal

abbrev pub invariant-loop-space : goal.invariant-loop-space
invariant-loop-space l = record {
  left : l.at + 4 * blocks_in (drop l.space-index l.spaces) ≡ 5120 + 4 * blocks_in l.spaces;
  whole : l.pages.items ++ page_lists (map size_of_row (drop l.space-index l.spaces)) (drop l.at l.bytes) ≡ page_lists (map size_of_row l.spaces) (drop 5120 l.bytes);
}
