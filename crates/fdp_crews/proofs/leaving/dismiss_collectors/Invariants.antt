use Rattle.std.proofs.Common.{◌≡◌, ◌≤◌, ◌++◌, vec_capacity}
use Rattle.std.specs.Prelude.{map}
use Rattle.fdp_crews.proofs.leaving.dismiss_collectors.Given as goal

abbrev pub invariant-loop-sweeper : goal.invariant-loop-sweeper
invariant-loop-sweeper g l = record {
  seats : l.seats.items ≡ l.initial.seats.items ++ map (λ w. w.seat) l.yielded;
  passes : l.passes.items ≡ l.initial.passes.items ++ map (λ w. w.pass) l.yielded;
  room_for_seats : vec_capacity l.initial.seats ≤ vec_capacity l.seats;
  room_for_passes : vec_capacity l.initial.passes ≤ vec_capacity l.passes;
}
