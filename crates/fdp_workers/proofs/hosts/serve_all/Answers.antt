use Rattle.std.proofs.Common.{◌+◌, ◌∷◌, [], ap, arith, length, length-append, subst, sym, ◌∙◌}
use Rattle.std.proofs.lemmas.Iterator.Adapters.{YieldsList-from_vec}
use Rattle.std.proofs.lemmas.Iterator.Consumers.{YieldsList-at, YieldsList-end, YieldsList-from_enumerate, YieldsList-turn}
use Rattle.std.proofs.lemmas.List.FromFn.{length-enumerate_from}
use Rattle.fdp_workers.specs.Hosting.{IsAt, IsIdleAt, StopsAt, run_of}
use Rattle.fdp_workers.specs.Pairs.{IsIdlePair}
use Rattle.fdp_workers.specs.Queues.{so_far}
use Rattle.fdp_workers.proofs.Posts.{post-first, post-more, post-still}
use Rattle.fdp_workers.proofs.Serving.{first-more, next-command}
use Rattle.fdp_workers.proofs.hosts.serve_all.Goals as goal

pub loop-number-init : goal.loop-number-init
loop-number-init g c = record {
  post = post-first c.args.gauge.now c.args.seat.now c.args.pass.now c.requires.post.pass_is;
  idle = subst (λ rs. IsIdleAt g.V.Recorded.origin g.V.Steps.run g.V.Steps.entry g.V.Recorded.mark c.args.lock.now (so_far c.args.trace.items 0 rs) c.args.seat.now) (sym c.requires.none) c.requires.idle;
  pair = c.requires.pair;
  room = c.requires.room;
  count = ap length c.requires.none;
  shown = λ low. absurd (omega (arith, low));
}

pub exchange-requires-clause-post : goal.exchange-requires-clause-post
exchange-requires-clause-post g c = post-still (run_of g.V.Recorded.origin g.V.Steps.run c.args.lock.now) c.args.gauge.now c.args.seat.now c.loop-number.seat c.args.pass.now c.loop-number.pass c.requires.post c.loop-number.invariant.post

pub exchange-requires-clause-idle : goal.exchange-requires-clause-idle
exchange-requires-clause-idle g c =
    (so_far c.args.trace.items (length c.loop-number.yielded) c.loop-number.receipts.items, c.loop-number.invariant.idle)

pub push_reserved-requires : goal.push_reserved-requires
push_reserved-requires g c =
    let t = next-command c.args.trace.items (length c.loop-number.yielded) c.in-Some.number c.in-Some.command (YieldsList-turn (YieldsList-at c.into_iter-number-iterator.ensures.into_iter_gives (YieldsList-from_enumerate (YieldsList-at c.enumerate-number-items.ensures.source (YieldsList-from_vec c.args.trace.items c.into_iter.ensures.rest (omega (arith, c.into_iter.ensures.len, c.args.trace.ok)))) c.enumerate-number-items.ensures.count)) c.loop-number.yielded c.loop-number.number-iterator c.loop-number.yielded_by c.next.result c.next.new.self (c.in-Some.number, c.in-Some.command) c.in-Some.is c.next.ensures.steps) in
    omega (arith, t.0, c.loop-number.invariant.room, c.loop-number.invariant.count)

pub returns-in-Err-clause-post : goal.returns-in-Err-clause-post
returns-in-Err-clause-post g c = post-more c.args.gauge.now c.args.seat.now c.loop-number.seat c.exchange.new.seat c.args.pass.now c.loop-number.pass c.exchange.new.pass c.loop-number.invariant.post c.exchange.ensures.post

pub returns-in-Err-clause-serves : goal.returns-in-Err-clause-serves
returns-in-Err-clause-serves g c =
    let t = next-command c.args.trace.items (length c.loop-number.yielded) c.in-Some.number c.in-Some.command (YieldsList-turn (YieldsList-at c.into_iter-number-iterator.ensures.into_iter_gives (YieldsList-from_enumerate (YieldsList-at c.enumerate-number-items.ensures.source (YieldsList-from_vec c.args.trace.items c.into_iter.ensures.rest (omega (arith, c.into_iter.ensures.len, c.args.trace.ok)))) c.enumerate-number-items.ensures.count)) c.loop-number.yielded c.loop-number.number-iterator c.loop-number.yielded_by c.next.result c.next.new.self (c.in-Some.number, c.in-Some.command) c.in-Some.is c.next.ensures.steps) in
    record {
      count = length c.loop-number.yielded;
      few = t.0;
      sized = c.loop-number.invariant.count;
      command = c.in-Some.command;
      command_is = t.2;
      stopped = subst (λ k. StopsAt g.V.Recorded.origin g.V.Steps.run g.V.Steps.entry g.V.Recorded.mark c.args.lock.now (so_far c.args.trace.items (length c.loop-number.yielded) c.loop-number.receipts.items) k c.in-Some.command c.exchange.new.seat) t.1
          (c.in-Err.ensures.served (so_far c.args.trace.items (length c.loop-number.yielded) c.loop-number.receipts.items) c.loop-number.invariant.idle);
    }

pub loop-number-preserved : goal.loop-number-preserved
loop-number-preserved g c =
    let t = next-command c.args.trace.items (length c.loop-number.yielded) c.in-Some.number c.in-Some.command (YieldsList-turn (YieldsList-at c.into_iter-number-iterator.ensures.into_iter_gives (YieldsList-from_enumerate (YieldsList-at c.enumerate-number-items.ensures.source (YieldsList-from_vec c.args.trace.items c.into_iter.ensures.rest (omega (arith, c.into_iter.ensures.len, c.args.trace.ok)))) c.enumerate-number-items.ensures.count)) c.loop-number.yielded c.loop-number.number-iterator c.loop-number.yielded_by c.next.result c.next.new.self (c.in-Some.number, c.in-Some.command) c.in-Some.is c.next.ensures.steps) in
    let h = c.in-Ok.ensures.served (so_far c.args.trace.items (length c.loop-number.yielded) c.loop-number.receipts.items) c.loop-number.invariant.idle in
    let more = first-more g.V.Recorded.origin g.V.Steps.run g.V.Steps.entry g.V.Recorded.mark c.args.lock.now c.args.trace.items (length c.loop-number.yielded) c.in-Some.number c.loop-number.receipts.items c.in-Some.command c.exchange.new.seat c.exchange.new.pass c.in-Ok.exchanged.done t h in
    let one = length-append c.loop-number.yielded ((c.in-Some.number, c.in-Some.command) ∷ []) in
    record {
      post = post-more c.args.gauge.now c.args.seat.now c.loop-number.seat c.exchange.new.seat c.args.pass.now c.loop-number.pass c.exchange.new.pass c.loop-number.invariant.post c.exchange.ensures.post;
      idle = subst (λ k. IsIdleAt g.V.Recorded.origin g.V.Steps.run g.V.Steps.entry g.V.Recorded.mark c.args.lock.now (so_far c.args.trace.items k c.push_reserved.new.self.items) c.exchange.new.seat) (sym one) (subst (λ rs. IsIdleAt g.V.Recorded.origin g.V.Steps.run g.V.Steps.entry g.V.Recorded.mark c.args.lock.now (so_far c.args.trace.items (length c.loop-number.yielded + 1) rs) c.exchange.new.seat) (sym c.push_reserved.ensures.items) more);
      pair = subst (λ k. IsIdlePair c.args.config.now.queue_depth k k c.exchange.new.pair) (ap (λ k. k + 1) t.1 ∙ sym one) c.in-Ok.ensures.pair;
      room = omega (arith, c.loop-number.invariant.room, c.push_reserved.ensures.capacity);
      count = omega (arith, ap length c.push_reserved.ensures.items, length-append c.loop-number.receipts.items (record { number = c.in-Some.number; position = c.in-Ok.exchanged.done.position } ∷ []), one, c.loop-number.invariant.count);
      shown = λ low. h.shown;
    }

pub returns-clause-post : goal.returns-clause-post
returns-clause-post g c = c.loop-number.invariant.post

pub returns-clause-serves : goal.returns-clause-serves
returns-clause-serves g c =
    let t = YieldsList-end (YieldsList-at c.into_iter-number-iterator.ensures.into_iter_gives (YieldsList-from_enumerate (YieldsList-at c.enumerate-number-items.ensures.source (YieldsList-from_vec c.args.trace.items c.into_iter.ensures.rest (omega (arith, c.into_iter.ensures.len, c.args.trace.ok)))) c.enumerate-number-items.ensures.count)) c.loop-number.yielded c.loop-number.number-iterator c.loop-number.yielded_by c.next.result c.next.new.self c.in-None.is c.next.ensures.steps in
    let all = t.1 ∙ length-enumerate_from 0 c.args.trace.items in
    record {
      at = subst (λ k. IsAt g.V.Recorded.origin g.V.Steps.run g.V.Steps.entry g.V.Recorded.mark c.args.lock.now (so_far c.args.trace.items k c.loop-number.receipts.items) c.loop-number.seat) all c.loop-number.invariant.idle.at;
      paced = c.loop-number.invariant.idle.paced;
      shown = λ low. c.loop-number.invariant.shown (omega (arith, low, all));
    }

pub exchange-requires-clause-pair : goal.exchange-requires-clause-pair
exchange-requires-clause-pair g c =
    let t = next-command c.args.trace.items (length c.loop-number.yielded) c.in-Some.number c.in-Some.command (YieldsList-turn (YieldsList-at c.into_iter-number-iterator.ensures.into_iter_gives (YieldsList-from_enumerate (YieldsList-at c.enumerate-number-items.ensures.source (YieldsList-from_vec c.args.trace.items c.into_iter.ensures.rest (omega (arith, c.into_iter.ensures.len, c.args.trace.ok)))) c.enumerate-number-items.ensures.count)) c.loop-number.yielded c.loop-number.number-iterator c.loop-number.yielded_by c.next.result c.next.new.self (c.in-Some.number, c.in-Some.command) c.in-Some.is c.next.ensures.steps) in
    subst (λ k. IsIdlePair c.args.config.now.queue_depth k k c.loop-number.pair) (sym t.1) c.loop-number.invariant.pair
