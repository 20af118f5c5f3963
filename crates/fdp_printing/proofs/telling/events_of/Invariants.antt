use Rattle.std.proofs.Common.{◌≡◌, ◌<◌, ◌≤◌, length, take}
use Rattle.fdp_printing.specs.Closing.{events_of}
use Rattle.fdp_printing.proofs.telling.events_of.Given as goal

abbrev pub invariant-loop-index : goal.invariant-loop-index
invariant-loop-index g l = (l.events.items ≡ take l.index (events_of l.host (g.T.Telling.point l.drive))) × (0 < l.index → length (events_of l.host (g.T.Telling.point l.drive)) ≤ 32)
