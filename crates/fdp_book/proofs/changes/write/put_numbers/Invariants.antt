use Rattle.std.proofs.Common.{◌≡◌, ◌≤◌, length, map, take}
use Rattle.fdp_base.specs.Placement.{geometry_of}
use Rattle.fdp_flash.specs.Layout.{page_number}
use Rattle.fdp_book.proofs.changes.write.put_numbers.Given as goal

abbrev pub invariant-loop-spot : goal.invariant-loop-spot
invariant-loop-spot l = record {
  numbers : l.numbers.items ≡ map (page_number (geometry_of l.config)) (take l.spot-index l.spots);
  fits : length l.spots ≤ 64;
}
