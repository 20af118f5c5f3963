use Rattle.std.proofs.Common.{◌+◌, ◌∙◌, ap, subst, sym}
use Rattle.fdp_lock.specs.Seats.{number_of}
use Rattle.fdp_queues.specs.Rings.{Rings}
use Rattle.fdp_workers.specs.Hosting.{EndsAt, StopsAt}
use Rattle.fdp_workers.specs.Pairs.{IsIdlePair, IsReaped}
use Rattle.fdp_workers.proofs.Pairing.{entry-through}
use Rattle.fdp_workers.proofs.hosts.exchange.Goals as goal

pub returns-in-Ok-clause-served : goal.returns-in-Ok-clause-served
returns-in-Ok-clause-served g c = λ p idle.
    let named = c.deliver-named.ensures.named in
    subst (λ k. EndsAt g.V.Recorded.origin g.V.Steps.run g.V.Steps.entry g.V.Recorded.mark c.args.lock.now p k c.args.command c.serve.new.seat c.serve.new.pass c.in-Ok.done) named
    (c.in-Ok.ensures.served p idle)

pub returns-in-Err-clause-served : goal.returns-in-Err-clause-served
returns-in-Err-clause-served g c = λ p idle.
    subst (λ k. StopsAt g.V.Recorded.origin g.V.Steps.run g.V.Steps.entry g.V.Recorded.mark c.args.lock.now p k c.args.command c.serve.new.seat) c.deliver-named.ensures.named (c.in-Err.ensures.served p idle)

pub complete-completion-requires : goal.complete-completion-requires
complete-completion-requires g c = record {
  idle = subst (λ k. IsIdlePair c.deliver-named.new.pair.depth (k + 1) k c.deliver-named.new.pair) (sym c.deliver-named.ensures.named)
      (entry-through c.args.config.now.queue_depth c.args.number c.args.pair.now c.deliver-named.new.pair c.deliver-named.ensures.fetched c.requires.pair);
}

pub returns-in-Ok-clause-pair : goal.returns-in-Ok-clause-pair
returns-in-Ok-clause-pair g c =
    let same = ap (λ (r : Rings). r.depth) c.deliver-named.ensures.fetched ∙ c.requires.pair.depth_is in
    subst (λ k. IsIdlePair c.args.config.now.queue_depth (k + 1) (k + 1) c.complete-completion.new.pair) c.deliver-named.ensures.named
    (subst (λ d. IsIdlePair d (c.deliver-named.result + 1) (c.deliver-named.result + 1) c.complete-completion.new.pair) same c.complete-completion.ensures.idle)

pub returns-in-Ok-clause-reaped : goal.returns-in-Ok-clause-reaped
returns-in-Ok-clause-reaped g c =
    let same = ap (λ (r : Rings). r.depth) c.deliver-named.ensures.fetched ∙ c.requires.pair.depth_is in
    subst (λ k. IsReaped c.args.config.now.queue_depth (number_of c.serve.new.seat) k c.in-Ok.done.reply c.complete-completion.result) c.deliver-named.ensures.named
    (subst (λ d. IsReaped d (number_of c.serve.new.seat) c.deliver-named.result c.in-Ok.done.reply c.complete-completion.result) same
    (subst (λ q. IsReaped c.deliver-named.new.pair.depth q c.deliver-named.result c.in-Ok.done.reply c.complete-completion.result) c.number.ensures c.complete-completion.ensures.reaped))
