use Rattle.std.proofs.Common.{◌≡◌, ◌*◌, take, length}
use Rattle.fdp_binary.specs.Saying.{AreLaid, IsPid}
use Rattle.fdp_binary.proofs.data.pids_of.Given as goal

abbrev pub invariant-loop-index : goal.invariant-loop-index
invariant-loop-index l = (length l.pids.items ≡ l.index) × AreLaid IsPid (take (2 * l.index) l.body) l.pids.items
