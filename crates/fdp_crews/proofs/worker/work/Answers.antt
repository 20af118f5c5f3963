use Rattle.std.proofs.Common.{subst}
use Rattle.fdp_workers.specs.Hosting.{ServesTrace}
use Rattle.fdp_workers.proofs.Serving.{idle-first}
use Rattle.fdp_crews.proofs.Served.{served-by}
use Rattle.fdp_crews.proofs.worker.work.Goals as goal

pub serve_trace-served-requires-clause-idle : goal.serve_trace-served-requires-clause-idle
serve_trace-served-requires-clause-idle g c =
    let due = c.requires.due.seat in
    idle-first g.V.Recorded.origin g.V.Steps.run g.V.Steps.entry g.V.Recorded.mark c.args.lock.now c.replace-trace.result.items c.args.worker.now.seat due.of_lock due.no_turn due.turns due.made

pub returns-clause-served : goal.returns-clause-served
returns-clause-served g c =
    let s = c.serve_trace-served in
    served-by g.V.Recorded.origin g.V.Steps.run g.V.Steps.entry g.V.Recorded.mark c.args.lock.now c.args.gauge.now c.args.worker.now.trace.items c.args.worker.now.pass s.new.pass c.args.worker.now.seat _ s.result c.end_of-worker.ensures c.requires.due.seat s.ensures.post
    (subst (λ tr. ServesTrace g.V.Recorded.origin g.V.Steps.run g.V.Steps.entry g.V.Recorded.mark c.args.lock.now tr.items s.new.receipts.items s.new.seat s.new.pass s.result) c.replace-trace.ensures.value s.ensures.serves)
