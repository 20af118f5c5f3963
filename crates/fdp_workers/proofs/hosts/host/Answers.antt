use Rattle.fdp_workers.proofs.Serving.{all-serves, idle-first, some-serves}
use Rattle.fdp_workers.proofs.hosts.host.Goals as goal

pub serve_trace-requires-clause-idle : goal.serve_trace-requires-clause-idle
serve_trace-requires-clause-idle g c = idle-first g.V.Recorded.origin g.V.Steps.run g.V.Steps.entry g.V.Recorded.mark c.args.lock.now c.args.trace.items c.args.seat c.requires.of_lock.0 c.requires.of_lock.1 c.requires.new.0 c.requires.new.1

pub returns-in-Err-NoMemory-clause-serves : goal.returns-in-Err-NoMemory-clause-serves
returns-in-Err-NoMemory-clause-serves g c =
    let b = c.in-Err-NoMemory.ensures.serves in
    some-serves g.V.Recorded.origin g.V.Steps.run g.V.Steps.entry g.V.Recorded.mark c.args.lock.now c.args.trace.items c.serve_trace.new.receipts.items c.serve_trace.new.seat b.count b.command b.few b.command_is b.stopped

pub returns-in-Err-Turns-clause-serves : goal.returns-in-Err-Turns-clause-serves
returns-in-Err-Turns-clause-serves g c =
    let b = c.in-Err-Turns.ensures.serves in
    some-serves g.V.Recorded.origin g.V.Steps.run g.V.Steps.entry g.V.Recorded.mark c.args.lock.now c.args.trace.items c.serve_trace.new.receipts.items c.serve_trace.new.seat b.count b.command b.few b.command_is b.stopped

pub returns-in-Ok-clause-serves : goal.returns-in-Ok-clause-serves
returns-in-Ok-clause-serves g c = all-serves g.V.Recorded.origin g.V.Steps.run g.V.Steps.entry g.V.Recorded.mark c.args.lock.now c.args.trace.items c.serve_trace.new.receipts.items c.serve_trace.new.seat c.in-Ok.ensures.serves.at
