use Rattle.std.proofs.Common.{◌≡◌, ◌+◌, ◌≤◌, length, vec_capacity}
use Rattle.std.specs.Prelude.{All}
use Rattle.fdp_crews.specs.Crews.{MaySweep}
use Rattle.fdp_crews.specs.Rooms.{IsHead}
use Rattle.fdp_gauge.specs.Passes.{IsPassOf}
use Rattle.fdp_lock.specs.Seats.{parts_of, seen_of}
use Rattle.fdp_crews.proofs.hiring.hire_collectors.Given as goal

abbrev pub invariant-loop-at : goal.invariant-loop-at
invariant-loop-at g l = record {
  head : IsHead g.V.Recorded.origin l.lock (seen_of l.initial.seat) (16 + l.at) (parts_of l.seat) l.seat;
  parts : parts_of l.seat + l.at ≡ parts_of l.initial.seat;
  of_gauge : IsPassOf l.gauge l.pass;
  may : All (λ w. MaySweep g.V.Recorded.origin l.lock l.gauge w) l.sweepers.items;
  count : length l.sweepers.items ≡ l.at;
  room : l.collectors ≤ vec_capacity l.sweepers;
}
