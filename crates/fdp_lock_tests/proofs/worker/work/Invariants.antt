use Rattle.std.proofs.Common.{◌≡◌, ◌+◌}
use Rattle.fdp_lock.specs.Seats.{turns_of, number_of, parts_of, HoldsNoTurn, IsSeatOf}
use Rattle.fdp_lock_tests.specs.Tally.{name_of}
use Rattle.fdp_lock_tests.proofs.worker.work.Given as goal

abbrev pub invariant-loop : goal.invariant-loop
invariant-loop g l = record {
  of_lock : IsSeatOf name_of l.lock l.seat;
  no_turn : HoldsNoTurn l.seat;
  number : number_of l.seat ≡ number_of l.initial.seat;
  parts : parts_of l.seat ≡ parts_of l.initial.seat;
  turns : turns_of l.seat ≡ turns_of l.initial.seat + l.counter;
}
