use Rattle.std.proofs.Common.{◌+◌, ◌≤◌, ◌<◌}
use mathlib.Core.List.{IsPrefix}
use Rattle.fdp_gauge.specs.Passes.{seen_of, IsPassOf}
use Rattle.fdp_lock.specs.Seats.{turns_of, HoldsNoTurn, IsSeatOf}
use Rattle.fdp_workers.specs.Hosting.{AddsNothing}
use Rattle.fdp_workers.proofs.collectors.sweep.Given as goal

abbrev pub invariant-loop : goal.invariant-loop
invariant-loop g l = record {
  of_lock : IsSeatOf g.V.Recorded.origin l.lock l.seat;
  no_turn : HoldsNoTurn l.seat;
  nothing : AddsNothing l.initial.seat l.seat;
  of_gauge : IsPassOf l.gauge l.pass;
  goes_on : IsPrefix (seen_of l.initial.pass) (seen_of l.pass);
  turns : turns_of l.seat + l.left ≤ l.turns;
  group : l.rg < l.groups;
}
