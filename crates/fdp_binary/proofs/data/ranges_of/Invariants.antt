use Rattle.std.proofs.Common.{◌≡◌, ◌*◌, take, length}
use Rattle.fdp_binary.specs.Saying.{AreLaid, IsRange}
use Rattle.fdp_binary.proofs.data.ranges_of.Given as goal

abbrev pub invariant-loop-index : goal.invariant-loop-index
invariant-loop-index l = (length l.ranges.items ≡ l.index) × AreLaid IsRange (take (16 * l.index) l.body) l.ranges.items
