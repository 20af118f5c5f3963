use Rattle.std.proofs.Common.{subst}
use Rattle.fdp_workers.specs.Hosting.{BeginsAt}
use Rattle.fdp_workers.proofs.Serving.{goes-on, starts-waits}
use Rattle.fdp_workers.proofs.hosts.serve.Goals as goal

pub end_write-requires-clause-flies : goal.end_write-requires-clause-flies
end_write-requires-clause-flies g c =
    let idle = c.requires.idle in
    let b = subst (BeginsAt g.V.Recorded.origin g.V.Steps.run g.V.Steps.entry g.V.Recorded.mark c.args.lock.now idle.0 c.args.number c.args.command c.begin.new.seat c.begin.new.pass) c.in-Going.is (c.in-Ok-begin.ensures.begun idle.0 idle.1) in
    (idle.0, b.going, starts-waits g.V.Recorded.origin g.V.Steps.run g.V.Steps.entry g.V.Recorded.mark c.args.lock.now idle.0 c.args.config.now c.args.number c.args.command c.begin.new.seat c.in-Going.ticket c.requires.formed b)

pub returns-in-Ended-clause-served : goal.returns-in-Ended-clause-served
returns-in-Ended-clause-served g c = λ p idle.
    subst (BeginsAt g.V.Recorded.origin g.V.Steps.run g.V.Steps.entry g.V.Recorded.mark c.args.lock.now p c.args.number c.args.command c.begin.new.seat c.begin.new.pass) c.in-Ended.is (c.in-Ok-begin.ensures.begun p idle)

pub returns-in-Going-clause-served : goal.returns-in-Going-clause-served
returns-in-Going-clause-served g c = λ p idle.
    let b = subst (BeginsAt g.V.Recorded.origin g.V.Steps.run g.V.Steps.entry g.V.Recorded.mark c.args.lock.now p c.args.number c.args.command c.begin.new.seat c.begin.new.pass) c.in-Going.is (c.in-Ok-begin.ensures.begun p idle) in
    goes-on g.V.Recorded.origin g.V.Steps.run g.V.Steps.entry g.V.Recorded.mark c.args.lock.now p c.args.number c.args.command c.begin.new.seat c.end_write.new.seat c.in-Going.ticket c.end_write.new.pass c.end_write.result b
    (c.end_write.ensures.ended p b.going (starts-waits g.V.Recorded.origin g.V.Steps.run g.V.Steps.entry g.V.Recorded.mark c.args.lock.now p c.args.config.now c.args.number c.args.command c.begin.new.seat c.in-Going.ticket c.requires.formed b))
