use Rattle.std.proofs.Common.{inr, refl, subst, sym, ◌∙◌}
use Rattle.fdp_workers.specs.Queues.{NoOtherGoes}
use Rattle.fdp_workers.proofs.Seating.{leaves-own, nonzero, turned-ends, turned-starts}
use Rattle.fdp_workers.proofs.Turning.{by-own}
use Rattle.fdp_workers.proofs.turns.begin.Goals as goal

pub leave-requires-in-Ended-clause-own_entries : goal.leave-requires-in-Ended-clause-own_entries
leave-requires-in-Ended-clause-own_entries g c =
    let step = c.in-Ended.ensures.step in
    leaves-own g.V.Recorded.mark c.number-queue.result _ _ _ (g.V.Recorded.entries c.take_room.new.value) (g.V.Recorded.entries c.start.new.self) _ c.number-queue.ensures c.enter-turn.ensures.seen c.take_room.ensures.entries c.publish.ensures.entries
    (by-own g.V.Recorded.mark c.number-queue.result g.V.Steps.entry (g.V.Recorded.entries c.take_room.new.value) (g.V.Recorded.entries c.start.new.self) _ step.adds)

pub leave-requires-in-Going-clause-own_entries : goal.leave-requires-in-Going-clause-own_entries
leave-requires-in-Going-clause-own_entries g c =
    let step = c.in-Going.ensures.step in
    leaves-own g.V.Recorded.mark c.number-queue.result _ _ _ (g.V.Recorded.entries c.take_room.new.value) (g.V.Recorded.entries c.start.new.self) _ c.number-queue.ensures c.enter-turn.ensures.seen c.take_room.ensures.entries refl
    (by-own g.V.Recorded.mark c.number-queue.result g.V.Steps.entry (g.V.Recorded.entries c.take_room.new.value) (g.V.Recorded.entries c.start.new.self) _ step.adds)

pub returns-in-Ended-clause-begun : goal.returns-in-Ended-clause-begun
returns-in-Ended-clause-begun g c = λ p idle.
    turned-ends g.V.Recorded.origin g.V.Recorded.entries g.V.Steps.run g.V.Steps.entry g.V.Recorded.mark c.args.lock.now c.args.seat.now c.enter-turn.new.seat c.leave-in-Ended.new.seat c.enter-turn.result.value c.take_room.new.value c.start.new.self c.publish.new.self
    (record {
      of_lock = idle.at.of_lock;
      number = nonzero _ _ c.requires.post.queue_is;
      paced = idle.paced;
      finds = c.enter-turn.ensures.value;
      seen_entered = c.enter-turn.ensures.seen;
      made_entered = c.enter-turn.ensures.made;
      turns_entered = c.enter-turn.ensures.turns;
      place_entered = c.enter-turn.ensures.place;
      given = c.known.ensures;
      origin_before = c.take_room.ensures.origin;
      entries_before = c.take_room.ensures.entries;
      origin_after = c.publish.ensures.origin ∙ c.start.ensures.origin;
      entries_after = c.publish.ensures.entries;
      left = c.known-in-Ended.ensures;
      seen = c.leave-in-Ended.ensures.seen;
      made = c.leave-in-Ended.ensures.made;
      no_turn = c.leave-in-Ended.ensures.no_turn;
      turns = c.leave-in-Ended.ensures.turns;
      place = c.leave-in-Ended.ensures.place;
    })
    p c.number-queue.result c.args.number c.args.command c.in-Ended.done c.publish.new.pass (c.number-queue.ensures ∙ c.enter-turn.ensures.place.number) (inr idle.idle) (subst (NoOtherGoes c.args.number c.args.command) (sym idle.idle) tt) idle.at c.in-Ended.ensures.step c.publish.ensures.shown

pub returns-in-Going-clause-begun : goal.returns-in-Going-clause-begun
returns-in-Going-clause-begun g c = λ p idle.
    turned-starts g.V.Recorded.origin g.V.Recorded.entries g.V.Steps.run g.V.Steps.entry g.V.Recorded.mark c.args.lock.now c.args.seat.now c.enter-turn.new.seat c.leave-in-Going.new.seat c.enter-turn.result.value c.take_room.new.value c.start.new.self c.start.new.self
    (record {
      of_lock = idle.at.of_lock;
      number = nonzero _ _ c.requires.post.queue_is;
      paced = idle.paced;
      finds = c.enter-turn.ensures.value;
      seen_entered = c.enter-turn.ensures.seen;
      made_entered = c.enter-turn.ensures.made;
      turns_entered = c.enter-turn.ensures.turns;
      place_entered = c.enter-turn.ensures.place;
      given = c.known.ensures;
      origin_before = c.take_room.ensures.origin;
      entries_before = c.take_room.ensures.entries;
      origin_after = c.start.ensures.origin;
      entries_after = refl;
      left = c.known-in-Going.ensures;
      seen = c.leave-in-Going.ensures.seen;
      made = c.leave-in-Going.ensures.made;
      no_turn = c.leave-in-Going.ensures.no_turn;
      turns = c.leave-in-Going.ensures.turns;
      place = c.leave-in-Going.ensures.place;
    })
    p c.number-queue.result c.args.number c.args.command c.in-Going.ticket (c.number-queue.ensures ∙ c.enter-turn.ensures.place.number) idle.idle idle.at c.in-Going.ensures.step
