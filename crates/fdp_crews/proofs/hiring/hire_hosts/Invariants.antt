use Rattle.std.proofs.Common.{◌≡◌, ◌+◌, ◌≤◌, length, vec_capacity}
use Rattle.std.specs.Prelude.{All, map}
use Rattle.fdp_base.specs.Numbers.{numbers_from}
use Rattle.fdp_crews.specs.Crews.{IsDueFor}
use Rattle.fdp_crews.specs.Rooms.{IsHead}
use Rattle.fdp_gauge.specs.Passes.{IsPassOf}
use Rattle.fdp_lock.specs.Seats.{number_of, parts_of, seen_of}
use Rattle.fdp_crews.proofs.hiring.hire_hosts.Given as goal

abbrev pub invariant-loop-at : goal.invariant-loop-at
invariant-loop-at g l = record {
  head : IsHead g.V.Recorded.origin l.lock (seen_of l.initial.seat) (length l.yielded) (parts_of l.seat) l.seat;
  parts : parts_of l.seat + length l.yielded ≡ parts_of l.initial.seat;
  of_gauge : IsPassOf l.gauge l.pass;
  due : All (λ w. IsDueFor g.V.Recorded.origin g.V.Steps.run l.lock l.gauge (map (λ t. t.items) l.fn.traces.items) w) l.workers.items;
  numbers : map (λ w. number_of w.seat) l.workers.items ≡ numbers_from 1 (length l.yielded);
  count : length l.workers.items ≡ length l.yielded;
  room : length l.fn.traces.items ≤ vec_capacity l.workers;
}
