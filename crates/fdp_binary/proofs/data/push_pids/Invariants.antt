use Rattle.std.proofs.Common.{◌≡◌, ◌++◌, take}
use Rattle.std.specs.Prelude.{flat_map}
use Rattle.std.specs.Int.{to_le_bytes, w16}
use Rattle.fdp_binary.specs.Carrying.{Extends}
use Rattle.fdp_binary.proofs.data.push_pids.Given as goal

abbrev pub invariant-loop-pid : goal.invariant-loop-pid
invariant-loop-pid l =
    (l.into.items ≡ l.fn.into.items ++ flat_map (to_le_bytes w16) (take l.pid-index l.pids))
    × Extends l.fn.into.items l.into.items
