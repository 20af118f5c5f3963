use Rattle.std.proofs.Common.{ap, refl, sym, ◌∙◌}
use Rattle.fdp_base.specs.CommandKinds.{blocks_written}
use Rattle.fdp_workers.specs.Queues.{flying}
use Rattle.fdp_workers.proofs.Seating.{flying-given, history-same, leaves-on, leaves-own, nonzero, post-kept, spent-same, turned-lands, turned-stops}
use Rattle.fdp_workers.proofs.Turning.{by-own}
use Rattle.fdp_workers.proofs.turns.end.Goals as goal

pub abandon-requires : goal.abandon-requires
abandon-requires g c = let flies = c.requires.ready.2 in record { ticket = record { going = _; ticket_is = flying-given g.V.Recorded.origin g.V.Recorded.entries g.V.Steps.run g.V.Steps.entry g.V.Recorded.mark c.args.lock.now c.args.seat.now c.enter-turn.result.value c.take_room.new.value _ c.args.ticket _ _ flies (nonzero _ _ c.requires.post.queue_is) c.enter-turn.ensures.value c.known.ensures c.take_room.ensures.origin c.take_room.ensures.entries } }

pub returns-in-Err-clause-ended : goal.returns-in-Err-clause-ended
returns-in-Err-clause-ended g c = λ p x flies.
    turned-stops g.V.Recorded.origin g.V.Recorded.entries g.V.Steps.run g.V.Steps.entry g.V.Recorded.mark c.args.lock.now c.args.seat.now c.enter-turn.new.seat c.leave.new.seat c.enter-turn.result.value c.take_room.new.value c.abandon.new.self c.abandon.new.self
    (record {
      of_lock = flies.at.of_lock;
      number = nonzero _ _ c.requires.post.queue_is;
      paced = flies.paced;
      finds = c.enter-turn.ensures.value;
      seen_entered = c.enter-turn.ensures.seen;
      made_entered = c.enter-turn.ensures.made;
      turns_entered = c.enter-turn.ensures.turns;
      place_entered = c.enter-turn.ensures.place;
      given = c.known.ensures;
      origin_before = c.take_room.ensures.origin;
      entries_before = c.take_room.ensures.entries;
      origin_after = ap g.V.Recorded.origin c.abandon.ensures.same;
      entries_after = refl;
      left = history-same g.V.Recorded.origin g.V.Recorded.entries g.V.Steps.run g.V.Steps.entry g.V.Recorded.mark c.enter-turn.result.value c.abandon.new.self (ap g.V.Recorded.origin c.abandon.ensures.same ∙ c.take_room.ensures.origin) (ap g.V.Recorded.entries c.abandon.ensures.same ∙ c.take_room.ensures.entries) c.known.ensures;
      seen = c.leave.ensures.seen;
      made = c.leave.ensures.made;
      no_turn = c.leave.ensures.no_turn;
      turns = c.leave.ensures.turns;
      place = c.leave.ensures.place;
    })
    p (flying p x (blocks_written x.command)) x.number x.command refl refl (refl, refl) (ap g.V.Recorded.entries c.abandon.ensures.same) flies.at

pub returns-in-Err-clause-cause : goal.returns-in-Err-clause-cause
returns-in-Err-clause-cause g c = λ turns.
    let flies = c.requires.ready.2 in
    spent-same g.V.Recorded.origin g.V.Recorded.entries g.V.Steps.run g.V.Steps.entry g.V.Recorded.mark c.args.lock.now g.V.Steps.spent c.args.seat.now c.leave.new.seat c.enter-turn.result.value c.take_room.new.value flies.at.of_lock c.enter-turn.ensures.value c.take_room.ensures.origin
    (sym (c.leave.ensures.seen ∙ ap g.V.Recorded.entries c.abandon.ensures.same)) (c.in-Err.ensures.cause turns)

pub commit-done-requires-clause-ticket : goal.commit-done-requires-clause-ticket
commit-done-requires-clause-ticket g c =
    let flies = c.requires.ready.2 in
    record { going = _; ticket_is = flying-given g.V.Recorded.origin g.V.Recorded.entries g.V.Steps.run g.V.Steps.entry g.V.Recorded.mark c.args.lock.now c.args.seat.now c.enter-turn.result.value c.take_room.new.value _ c.args.ticket _ _ flies (nonzero _ _ c.requires.post.queue_is) c.enter-turn.ensures.value c.known.ensures c.take_room.ensures.origin c.take_room.ensures.entries; placed = refl }

pub leave-requires-2-clause-goes_on : goal.leave-requires-2-clause-goes_on
leave-requires-2-clause-goes_on g c =
    let flies = c.requires.ready.2 in
    let step = c.commit-done.ensures.step _ (flying-given g.V.Recorded.origin g.V.Recorded.entries g.V.Steps.run g.V.Steps.entry g.V.Recorded.mark c.args.lock.now c.args.seat.now c.enter-turn.result.value c.take_room.new.value _ c.args.ticket _ _ flies (nonzero _ _ c.requires.post.queue_is) c.enter-turn.ensures.value c.known.ensures c.take_room.ensures.origin c.take_room.ensures.entries) in
    leaves-on g.V.Recorded.mark c.args.ticket.queue _ (g.V.Recorded.entries c.enter-turn.result.value) (g.V.Recorded.entries c.take_room.new.value) (g.V.Recorded.entries c.commit-done.new.self) (g.V.Recorded.entries c.publish.new.self) c.enter-turn.ensures.seen c.take_room.ensures.entries c.publish.ensures.entries
    (by-own g.V.Recorded.mark c.args.ticket.queue g.V.Steps.entry (g.V.Recorded.entries c.take_room.new.value) (g.V.Recorded.entries c.commit-done.new.self) _ step.adds)

pub leave-requires-2-clause-own_entries : goal.leave-requires-2-clause-own_entries
leave-requires-2-clause-own_entries g c =
    let flies = c.requires.ready.2 in
    let step = c.commit-done.ensures.step _ (flying-given g.V.Recorded.origin g.V.Recorded.entries g.V.Steps.run g.V.Steps.entry g.V.Recorded.mark c.args.lock.now c.args.seat.now c.enter-turn.result.value c.take_room.new.value _ c.args.ticket _ _ flies (nonzero _ _ c.requires.post.queue_is) c.enter-turn.ensures.value c.known.ensures c.take_room.ensures.origin c.take_room.ensures.entries) in
    leaves-own g.V.Recorded.mark c.args.ticket.queue _ _ (g.V.Recorded.entries c.enter-turn.result.value) (g.V.Recorded.entries c.take_room.new.value) (g.V.Recorded.entries c.commit-done.new.self) (g.V.Recorded.entries c.publish.new.self) (flies.ticket_is.queue_is ∙ sym c.enter-turn.ensures.place.number) c.enter-turn.ensures.seen c.take_room.ensures.entries c.publish.ensures.entries
    (by-own g.V.Recorded.mark c.args.ticket.queue g.V.Steps.entry (g.V.Recorded.entries c.take_room.new.value) (g.V.Recorded.entries c.commit-done.new.self) _ step.adds)

pub returns-clause-post : goal.returns-clause-post
returns-clause-post g c =
    let flies = c.requires.ready.2 in
    let step = c.commit-done.ensures.step _ (flying-given g.V.Recorded.origin g.V.Recorded.entries g.V.Steps.run g.V.Steps.entry g.V.Recorded.mark c.args.lock.now c.args.seat.now c.enter-turn.result.value c.take_room.new.value _ c.args.ticket _ _ flies (nonzero _ _ c.requires.post.queue_is) c.enter-turn.ensures.value c.known.ensures c.take_room.ensures.origin c.take_room.ensures.entries) in
    let goes_on = leaves-on g.V.Recorded.mark c.args.ticket.queue _ (g.V.Recorded.entries c.enter-turn.result.value) (g.V.Recorded.entries c.take_room.new.value) (g.V.Recorded.entries c.commit-done.new.self) (g.V.Recorded.entries c.publish.new.self) c.enter-turn.ensures.seen c.take_room.ensures.entries c.publish.ensures.entries
    (by-own g.V.Recorded.mark c.args.ticket.queue g.V.Steps.entry (g.V.Recorded.entries c.take_room.new.value) (g.V.Recorded.entries c.commit-done.new.self) _ step.adds) in
    post-kept c.args.gauge.now c.args.seat.now c.enter-turn.new.seat c.leave-2.new.seat (g.V.Recorded.entries c.enter-turn.result.value) (g.V.Recorded.entries c.publish.new.self) c.args.pass.now c.publish.new.pass
    c.enter-turn.ensures.place c.leave-2.ensures.place c.enter-turn.ensures.value.seen c.enter-turn.ensures.seen goes_on c.leave-2.ensures.seen c.publish.ensures.of_gauge c.publish.ensures.goes_on

pub returns-clause-ended : goal.returns-clause-ended
returns-clause-ended g c = λ p x flies.
    turned-lands g.V.Recorded.origin g.V.Recorded.entries g.V.Steps.run g.V.Steps.entry g.V.Recorded.mark c.args.lock.now c.args.seat.now c.enter-turn.new.seat c.leave-2.new.seat c.enter-turn.result.value c.take_room.new.value c.commit-done.new.self c.publish.new.self
    (record {
      of_lock = flies.at.of_lock;
      number = nonzero _ _ c.requires.post.queue_is;
      paced = flies.paced;
      finds = c.enter-turn.ensures.value;
      seen_entered = c.enter-turn.ensures.seen;
      made_entered = c.enter-turn.ensures.made;
      turns_entered = c.enter-turn.ensures.turns;
      place_entered = c.enter-turn.ensures.place;
      given = c.known.ensures;
      origin_before = c.take_room.ensures.origin;
      entries_before = c.take_room.ensures.entries;
      origin_after = c.publish.ensures.origin ∙ c.commit-done.ensures.origin;
      entries_after = c.publish.ensures.entries;
      left = c.known-2.ensures;
      seen = c.leave-2.ensures.seen;
      made = c.leave-2.ensures.made;
      no_turn = c.leave-2.ensures.no_turn;
      turns = c.leave-2.ensures.turns;
      place = c.leave-2.ensures.place;
    })
    p c.args.ticket x (blocks_written x.command) c.commit-done.result c.publish.new.pass flies (c.commit-done.ensures.step _ (flying-given g.V.Recorded.origin g.V.Recorded.entries g.V.Steps.run g.V.Steps.entry g.V.Recorded.mark c.args.lock.now c.args.seat.now c.enter-turn.result.value c.take_room.new.value _ c.args.ticket _ _ flies (nonzero _ _ c.requires.post.queue_is) c.enter-turn.ensures.value c.known.ensures c.take_room.ensures.origin c.take_room.ensures.entries)) c.publish.ensures.shown
