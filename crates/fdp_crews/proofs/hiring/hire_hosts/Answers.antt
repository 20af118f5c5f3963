use Rattle.std.proofs.Common.{[], ◌∷◌, ◌++◌, length, length-append, arith, ap, subst, sym, refl, ◌∙◌}
use Rattle.std.specs.Prelude.{All, map}
use mathlib.Core.List.{map-append}
use Rattle.std.proofs.lemmas.Iterator.Adapters.{YieldsList-from_vec}
use Rattle.std.proofs.lemmas.Iterator.Consumers.{YieldsList-at, YieldsList-from_enumerate, YieldsList-turn}
use Rattle.std.proofs.lemmas.List.Elements.{All-nil, All-push}
use Rattle.fdp_base.specs.Numbers.{numbers_from}
use Rattle.fdp_crews.specs.declared.worker.Worker.{Worker}
use Rattle.fdp_crews.specs.Crews.{IsDueFor, IsTrace}
use Rattle.fdp_lock.specs.Seats.{IsNew, given_of, number_of, parts_of, seen_of}
use Rattle.fdp_workers.specs.declared.ends.End.TheVariants as ends
use Rattle.fdp_workers.specs.Hosting.{run_of}
use Rattle.fdp_crews.proofs.Hired.{due-for, head-gave, head-higher, next-item, row-more, row-none}
use Rattle.fdp_crews.proofs.hiring.hire_hosts.Goals as goal

pub loop-at-init : goal.loop-at-init
loop-at-init g c = record {
  head = c.requires.head;
  parts = omega arith;
  of_gauge = c.requires.of_gauge;
  due = subst (λ ws. All (λ w. IsDueFor g.V.Recorded.origin g.V.Steps.run c.args.lock.now c.args.gauge.now (map (λ t. t.items) c.args.traces.items) w) ws) (sym c.requires.none) (All-nil (λ w. IsDueFor g.V.Recorded.origin g.V.Steps.run c.args.lock.now c.args.gauge.now (map (λ t. t.items) c.args.traces.items) w));
  numbers = ap (map (λ w. number_of w.seat)) c.requires.none ∙ sym (row-none 1);
  count = ap length c.requires.none;
  room = c.requires.room;
}

pub loop-at-preserved : goal.loop-at-preserved
loop-at-preserved g c =
    let n = length c.loop-at.yielded in
    let t = next-item c.args.traces.items n c.in-Some.at c.in-Some.trace (YieldsList-turn (YieldsList-at c.into_iter-at-iterator.ensures.into_iter_gives (YieldsList-from_enumerate (YieldsList-at c.enumerate-at-items.ensures.source (YieldsList-from_vec c.args.traces.items c.into_iter.ensures.rest (omega (arith, c.into_iter.ensures.len, c.args.traces.ok)))) c.enumerate-at-items.ensures.count)) c.loop-at.yielded c.loop-at.at-iterator c.loop-at.yielded_by c.next.result c.next.new.self (c.in-Some.at, c.in-Some.trace) c.in-Some.is c.next.ensures.steps) in
    let one = length-append c.loop-at.yielded ((c.in-Some.at, c.in-Some.trace) ∷ []) in
    let i = c.loop-at.invariant in
    let w : Worker g.row.V.Denot g.row.V-Origin.Denot g.row.V-Item.Denot g.V.Recorded = record { seat = c.split.result; pass = c.split-in-loop-at.result; trace = c.in-Some.trace; receipts = c.new.result; end = ends.NoMemory } in
    let ts = c.args.traces.items in
    let new = subst (λ k. IsNew g.V.Recorded.origin c.args.lock.now k c.loop-at.seat c.split.result) (omega (arith, c.split.ensures.new.number_is, t.1)) c.split.ensures.new in
    let trace = subst (λ v. IsTrace (run_of g.V.Recorded.origin g.V.Steps.run c.args.lock.now).config v.items) (sym t.2) (c.requires.traces n c.in-Some.trace t.0) in
    let due = due-for g.V.Recorded.origin g.V.Steps.run c.args.lock.now c.args.gauge.now ts n c.in-Some.trace c.loop-at.seat w (t.0, t.2) c.requires.queues new c.split-in-loop-at.ensures.of_gauge.1 c.requires.gauge trace refl c.new.ensures.items in
    let gave = head-gave g.V.Recorded.origin c.args.lock.now (seen_of c.args.seat.now) n (given_of c.split.new.seat) (parts_of c.loop-at.seat) c.loop-at.seat c.split.new.seat i.head c.split.ensures.rest refl in
    record {
      head = head-higher g.V.Recorded.origin c.args.lock.now (seen_of c.args.seat.now) (given_of c.split.new.seat) (length (c.loop-at.yielded ++ (c.in-Some.at, c.in-Some.trace) ∷ [])) (parts_of c.split.new.seat) c.split.new.seat (omega (arith, c.split.ensures.given, c.split.ensures.new.number_is, t.1, one)) gave;
      parts = omega (arith, c.split.ensures.part, i.parts, one);
      of_gauge = c.split-in-loop-at.ensures.of_gauge.0;
      due = subst (λ ws. All (λ w. IsDueFor g.V.Recorded.origin g.V.Steps.run c.args.lock.now c.args.gauge.now (map (λ t. t.items) ts) w) ws) (sym c.push_reserved.ensures.items)
          (All-push (λ w. IsDueFor g.V.Recorded.origin g.V.Steps.run c.args.lock.now c.args.gauge.now (map (λ t. t.items) ts) w) c.loop-at.workers.items w i.due due);
      numbers = ap (map (λ w. number_of w.seat)) c.push_reserved.ensures.items ∙ map-append (λ w. number_of w.seat) c.loop-at.workers.items (w ∷ []) ∙ ap (λ ys. ys ++ number_of w.seat ∷ []) i.numbers
          ∙ ap (λ k. numbers_from 1 n ++ k ∷ []) (omega (arith, c.split.ensures.new.number_is, t.1)) ∙ sym (row-more 1 n) ∙ ap (numbers_from 1) (sym one);
      count = omega (arith, ap length c.push_reserved.ensures.items, length-append c.loop-at.workers.items (w ∷ []), i.count, one);
      room = omega (arith, i.room, c.push_reserved.ensures.capacity);
    }
