use Rattle.std.proofs.Common.{◌≡◌, ◌+◌, ◌-◌, ◌≤◌}
use Rattle.fdp_passes.specs.Room.{live_among}
use Rattle.fdp_passes.proofs.room.live_from.Given as goal

abbrev pub invariant-loop-page : goal.invariant-loop-page
invariant-loop-page l = record {
  counted : l.live ≡ live_among l.owners l.fn.unit l.fn.first (l.page - l.fn.first);
  bound : l.live + l.fn.first ≤ l.page;
}
