use Rattle.std.proofs.Common.{◌≡◌, ◌≢◌, ◌≤◌, ◌++◌, vec_capacity}
use Rattle.std.specs.Prelude.{All, map}
use Rattle.fdp_crews.specs.Leaving.{IsSomeNotWhole}
use Rattle.fdp_workers.specs.declared.ends.End.TheVariants as ends
use Rattle.fdp_crews.proofs.leaving.dismiss_hosts.Given as goal

abbrev pub invariant-loop-worker : goal.invariant-loop-worker
invariant-loop-worker g l = record {
  seats : l.seats.items ≡ l.initial.seats.items ++ map (λ w. w.seat) l.yielded;
  passes : l.passes.items ≡ l.initial.passes.items ++ map (λ w. w.pass) l.yielded;
  room_for_seats : vec_capacity l.initial.seats ≤ vec_capacity l.seats;
  room_for_passes : vec_capacity l.initial.passes ≤ vec_capacity l.passes;
  receipts : l.receipts.items ≡ l.initial.receipts.items ++ map (λ w. w.receipts) l.yielded;
  room_for_receipts : vec_capacity l.initial.receipts ≤ vec_capacity l.receipts;
  whole : l.end ≡ ends.Whole → All (λ w. w.end ≡ ends.Whole) l.yielded;
  left : l.end ≢ ends.Whole → IsSomeNotWhole (map (λ w. w.end) l.yielded);
}
