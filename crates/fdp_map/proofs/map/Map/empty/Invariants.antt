use Rattle.std.proofs.Common.{◌≡◌}
use Rattle.fdp_map.proofs.Emptied.{IsEmptied}
use Rattle.fdp_map.proofs.map.Map.empty.Given as goal

abbrev pub invariant-loop-lba : goal.invariant-loop-lba
invariant-loop-lba l = IsEmptied l.fn.self l.self l.nsid l.lba × (l.self.geometry ≡ l.fn.self.geometry)
