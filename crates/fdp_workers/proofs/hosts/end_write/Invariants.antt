use Rattle.std.proofs.Common.{◌-◌, ◌^◌}
use Rattle.fdp_lock.specs.Seats.{turns_of}
use Rattle.fdp_rules.specs.PlainState.{Going}
use Rattle.fdp_workers.specs.Hosting.{KeepsPost, WaitsAt}
use Rattle.fdp_workers.specs.Queues.{Progress}
use Rattle.fdp_workers.proofs.hosts.end_write.Given as goal

abbrev pub invariant-loop-placed : goal.invariant-loop-placed
invariant-loop-placed g l = record {
  post : KeepsPost l.gauge l.initial.seat l.seat l.initial.pass l.pass;
  waits : (p : Progress) (x : Going) → WaitsAt g.V.Recorded.origin g.V.Steps.run g.V.Steps.entry g.V.Recorded.mark l.lock p l.initial.ticket x l.initial.seat → WaitsAt g.V.Recorded.origin g.V.Steps.run g.V.Steps.entry g.V.Recorded.mark l.lock p l.ticket x l.seat;
}

abbrev pub decreases-loop-placed : goal.decreases-loop-placed
decreases-loop-placed g l = 2 ^ 40 - turns_of l.seat
