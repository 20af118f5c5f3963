use Rattle.std.proofs.Common.{◌≡◌, ◌≤◌, ◌<◌, length, vec_capacity}
use Rattle.fdp_workers.specs.Hosting.{IsIdleAt, IsShown, KeepsPost}
use Rattle.fdp_workers.specs.Pairs.{IsIdlePair}
use Rattle.fdp_workers.specs.Queues.{so_far}
use Rattle.fdp_workers.proofs.hosts.serve_all.Given as goal

abbrev pub invariant-loop-number : goal.invariant-loop-number
invariant-loop-number g l = record {
  post : KeepsPost l.gauge l.initial.seat l.seat l.initial.pass l.pass;
  idle : IsIdleAt g.V.Recorded.origin g.V.Steps.run g.V.Steps.entry g.V.Recorded.mark l.lock (so_far l.fn.trace.items (length l.yielded) l.receipts.items) l.seat;
  pair : IsIdlePair l.config.queue_depth (length l.yielded) (length l.yielded) l.pair;
  room : length l.fn.trace.items ≤ vec_capacity l.receipts;
  count : length l.receipts.items ≡ length l.yielded;
  shown : 0 < length l.yielded → IsShown g.V.Recorded.mark l.seat l.pass;
}
