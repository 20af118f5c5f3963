use Rattle.std.proofs.Common.{ap, refl, sym, ◌∙◌}
use Rattle.fdp_base.proofs.Records.{prefix_refl}
use Rattle.fdp_workers.specs.Queues.{flying}
use Rattle.fdp_workers.proofs.Seating.{by-more, flying-given, history-same, leaves-on, leaves-own, nonzero, post-kept, spent-same, turned-lands, turned-ready, turned-stops, turned-waits}
use Rattle.fdp_workers.proofs.Turning.{by-own}
use Rattle.fdp_workers.proofs.turns.place.Goals as goal

pub abandon-requires : goal.abandon-requires
abandon-requires g c = let waits = c.requires.waits.2 in record { ticket = record { going = _; ticket_is = flying-given g.V.Recorded.origin g.V.Recorded.entries g.V.Steps.run g.V.Steps.entry g.V.Recorded.mark c.args.lock.now c.args.seat.now c.enter-turn.result.value c.take_room.new.value _ c.args.ticket _ _ waits.flies (nonzero _ _ c.requires.post.queue_is) c.enter-turn.ensures.value c.known.ensures c.take_room.ensures.origin c.take_room.ensures.entries } }

pub returns-in-Err-clause-placed : goal.returns-in-Err-clause-placed
returns-in-Err-clause-placed g c = λ p x waits.
    turned-stops g.V.Recorded.origin g.V.Recorded.entries g.V.Steps.run g.V.Steps.entry g.V.Recorded.mark c.args.lock.now c.args.seat.now c.enter-turn.new.seat c.leave.new.seat c.enter-turn.result.value c.take_room.new.value c.abandon.new.self c.abandon.new.self
    (record {
      of_lock = waits.flies.at.of_lock;
      number = nonzero _ _ c.requires.post.queue_is;
      paced = waits.flies.paced;
      finds = c.enter-turn.ensures.value;
      seen_entered = c.enter-turn.ensures.seen;
      made_entered = c.enter-turn.ensures.made;
      turns_entered = c.enter-turn.ensures.turns;
      place_entered = c.enter-turn.ensures.place;
      given = c.known.ensures;
      origin_before = c.take_room.ensures.origin;
      entries_before = c.take_room.ensures.entries;
      origin_after = ap g.V.Recorded.origin c.abandon.ensures.same;
      entries_after = refl;
      left = history-same g.V.Recorded.origin g.V.Recorded.entries g.V.Steps.run g.V.Steps.entry g.V.Recorded.mark c.enter-turn.result.value c.abandon.new.self (ap g.V.Recorded.origin c.abandon.ensures.same ∙ c.take_room.ensures.origin) (ap g.V.Recorded.entries c.abandon.ensures.same ∙ c.take_room.ensures.entries) c.known.ensures;
      seen = c.leave.ensures.seen;
      made = c.leave.ensures.made;
      no_turn = c.leave.ensures.no_turn;
      turns = c.leave.ensures.turns;
      place = c.leave.ensures.place;
    })
    p (flying p x waits.count) x.number x.command refl refl (refl, refl) (ap g.V.Recorded.entries c.abandon.ensures.same) waits.flies.at

pub returns-in-Err-clause-cause : goal.returns-in-Err-clause-cause
returns-in-Err-clause-cause g c = λ turns.
    let waits = c.requires.waits.2 in
    spent-same g.V.Recorded.origin g.V.Recorded.entries g.V.Steps.run g.V.Steps.entry g.V.Recorded.mark c.args.lock.now g.V.Steps.spent c.args.seat.now c.leave.new.seat c.enter-turn.result.value c.take_room.new.value waits.flies.at.of_lock c.enter-turn.ensures.value c.take_room.ensures.origin
    (sym (c.leave.ensures.seen ∙ ap g.V.Recorded.entries c.abandon.ensures.same)) (c.in-Err.ensures.cause turns)

pub place-requires-clause-ticket : goal.place-requires-clause-ticket
place-requires-clause-ticket g c =
    let waits = c.requires.waits.2 in
    record { going = _; ticket_is = flying-given g.V.Recorded.origin g.V.Recorded.entries g.V.Steps.run g.V.Steps.entry g.V.Recorded.mark c.args.lock.now c.args.seat.now c.enter-turn.result.value c.take_room.new.value _ c.args.ticket _ _ waits.flies (nonzero _ _ c.requires.post.queue_is) c.enter-turn.ensures.value c.known.ensures c.take_room.ensures.origin c.take_room.ensures.entries; asked = waits.asked }

pub leave-requires-in-Ended-clause-goes_on : goal.leave-requires-in-Ended-clause-goes_on
leave-requires-in-Ended-clause-goes_on g c =
    let waits = c.requires.waits.2 in
    let step = c.in-Ended.ensures.step _ (flying-given g.V.Recorded.origin g.V.Recorded.entries g.V.Steps.run g.V.Steps.entry g.V.Recorded.mark c.args.lock.now c.args.seat.now c.enter-turn.result.value c.take_room.new.value _ c.args.ticket _ _ waits.flies (nonzero _ _ c.requires.post.queue_is) c.enter-turn.ensures.value c.known.ensures c.take_room.ensures.origin c.take_room.ensures.entries) in
    leaves-on g.V.Recorded.mark c.args.ticket.queue _ (g.V.Recorded.entries c.enter-turn.result.value) (g.V.Recorded.entries c.take_room.new.value) (g.V.Recorded.entries c.place.new.self) (g.V.Recorded.entries c.publish.new.self) c.enter-turn.ensures.seen c.take_room.ensures.entries c.publish.ensures.entries
    (by-own g.V.Recorded.mark c.args.ticket.queue g.V.Steps.entry (g.V.Recorded.entries c.take_room.new.value) (g.V.Recorded.entries c.place.new.self) _ step.adds)

pub leave-requires-in-Ended-clause-own_entries : goal.leave-requires-in-Ended-clause-own_entries
leave-requires-in-Ended-clause-own_entries g c =
    let waits = c.requires.waits.2 in
    let step = c.in-Ended.ensures.step _ (flying-given g.V.Recorded.origin g.V.Recorded.entries g.V.Steps.run g.V.Steps.entry g.V.Recorded.mark c.args.lock.now c.args.seat.now c.enter-turn.result.value c.take_room.new.value _ c.args.ticket _ _ waits.flies (nonzero _ _ c.requires.post.queue_is) c.enter-turn.ensures.value c.known.ensures c.take_room.ensures.origin c.take_room.ensures.entries) in
    leaves-own g.V.Recorded.mark c.args.ticket.queue _ _ (g.V.Recorded.entries c.enter-turn.result.value) (g.V.Recorded.entries c.take_room.new.value) (g.V.Recorded.entries c.place.new.self) (g.V.Recorded.entries c.publish.new.self) (waits.flies.ticket_is.queue_is ∙ sym c.enter-turn.ensures.place.number) c.enter-turn.ensures.seen c.take_room.ensures.entries c.publish.ensures.entries
    (by-own g.V.Recorded.mark c.args.ticket.queue g.V.Steps.entry (g.V.Recorded.entries c.take_room.new.value) (g.V.Recorded.entries c.place.new.self) _ step.adds)

pub returns-in-Ended-clause-post : goal.returns-in-Ended-clause-post
returns-in-Ended-clause-post g c =
    let waits = c.requires.waits.2 in
    let step = c.in-Ended.ensures.step _ (flying-given g.V.Recorded.origin g.V.Recorded.entries g.V.Steps.run g.V.Steps.entry g.V.Recorded.mark c.args.lock.now c.args.seat.now c.enter-turn.result.value c.take_room.new.value _ c.args.ticket _ _ waits.flies (nonzero _ _ c.requires.post.queue_is) c.enter-turn.ensures.value c.known.ensures c.take_room.ensures.origin c.take_room.ensures.entries) in
    let goes_on = leaves-on g.V.Recorded.mark c.args.ticket.queue _ (g.V.Recorded.entries c.enter-turn.result.value) (g.V.Recorded.entries c.take_room.new.value) (g.V.Recorded.entries c.place.new.self) (g.V.Recorded.entries c.publish.new.self) c.enter-turn.ensures.seen c.take_room.ensures.entries c.publish.ensures.entries
    (by-own g.V.Recorded.mark c.args.ticket.queue g.V.Steps.entry (g.V.Recorded.entries c.take_room.new.value) (g.V.Recorded.entries c.place.new.self) _ step.adds) in
    post-kept c.args.gauge.now c.args.seat.now c.enter-turn.new.seat c.leave-in-Ended.new.seat (g.V.Recorded.entries c.enter-turn.result.value) (g.V.Recorded.entries c.publish.new.self) c.args.pass.now c.publish.new.pass
    c.enter-turn.ensures.place c.leave-in-Ended.ensures.place c.enter-turn.ensures.value.seen c.enter-turn.ensures.seen goes_on c.leave-in-Ended.ensures.seen c.publish.ensures.of_gauge c.publish.ensures.goes_on

pub returns-in-Ended-clause-placed : goal.returns-in-Ended-clause-placed
returns-in-Ended-clause-placed g c = λ p x waits.
    turned-lands g.V.Recorded.origin g.V.Recorded.entries g.V.Steps.run g.V.Steps.entry g.V.Recorded.mark c.args.lock.now c.args.seat.now c.enter-turn.new.seat c.leave-in-Ended.new.seat c.enter-turn.result.value c.take_room.new.value c.place.new.self c.publish.new.self
    (record {
      of_lock = waits.flies.at.of_lock;
      number = nonzero _ _ c.requires.post.queue_is;
      paced = waits.flies.paced;
      finds = c.enter-turn.ensures.value;
      seen_entered = c.enter-turn.ensures.seen;
      made_entered = c.enter-turn.ensures.made;
      turns_entered = c.enter-turn.ensures.turns;
      place_entered = c.enter-turn.ensures.place;
      given = c.known.ensures;
      origin_before = c.take_room.ensures.origin;
      entries_before = c.take_room.ensures.entries;
      origin_after = c.publish.ensures.origin ∙ c.place.ensures.origin;
      entries_after = c.publish.ensures.entries;
      left = c.known-in-Ended.ensures;
      seen = c.leave-in-Ended.ensures.seen;
      made = c.leave-in-Ended.ensures.made;
      no_turn = c.leave-in-Ended.ensures.no_turn;
      turns = c.leave-in-Ended.ensures.turns;
      place = c.leave-in-Ended.ensures.place;
    })
    p c.args.ticket x waits.count c.in-Ended.done c.publish.new.pass waits.flies (c.in-Ended.ensures.step _ (flying-given g.V.Recorded.origin g.V.Recorded.entries g.V.Steps.run g.V.Steps.entry g.V.Recorded.mark c.args.lock.now c.args.seat.now c.enter-turn.result.value c.take_room.new.value _ c.args.ticket _ _ waits.flies (nonzero _ _ c.requires.post.queue_is) c.enter-turn.ensures.value c.known.ensures c.take_room.ensures.origin c.take_room.ensures.entries)) c.publish.ensures.shown

pub leave-requires-in-More-clause-goes_on : goal.leave-requires-in-More-clause-goes_on
leave-requires-in-More-clause-goes_on g c =
    let waits = c.requires.waits.2 in
    let step = c.in-More.ensures.step _ (flying-given g.V.Recorded.origin g.V.Recorded.entries g.V.Steps.run g.V.Steps.entry g.V.Recorded.mark c.args.lock.now c.args.seat.now c.enter-turn.result.value c.take_room.new.value _ c.args.ticket _ _ waits.flies (nonzero _ _ c.requires.post.queue_is) c.enter-turn.ensures.value c.known.ensures c.take_room.ensures.origin c.take_room.ensures.entries) in
    leaves-on g.V.Recorded.mark c.args.ticket.queue _ (g.V.Recorded.entries c.enter-turn.result.value) (g.V.Recorded.entries c.take_room.new.value) (g.V.Recorded.entries c.place.new.self) (g.V.Recorded.entries c.place.new.self) c.enter-turn.ensures.seen c.take_room.ensures.entries refl
    (by-more g.V.Steps.entry g.V.Recorded.mark (g.V.Recorded.entries c.take_room.new.value) (g.V.Recorded.entries c.place.new.self) c.args.ticket _ step.1)

pub leave-requires-in-More-clause-own_entries : goal.leave-requires-in-More-clause-own_entries
leave-requires-in-More-clause-own_entries g c =
    let waits = c.requires.waits.2 in
    let step = c.in-More.ensures.step _ (flying-given g.V.Recorded.origin g.V.Recorded.entries g.V.Steps.run g.V.Steps.entry g.V.Recorded.mark c.args.lock.now c.args.seat.now c.enter-turn.result.value c.take_room.new.value _ c.args.ticket _ _ waits.flies (nonzero _ _ c.requires.post.queue_is) c.enter-turn.ensures.value c.known.ensures c.take_room.ensures.origin c.take_room.ensures.entries) in
    leaves-own g.V.Recorded.mark c.args.ticket.queue _ _ (g.V.Recorded.entries c.enter-turn.result.value) (g.V.Recorded.entries c.take_room.new.value) (g.V.Recorded.entries c.place.new.self) (g.V.Recorded.entries c.place.new.self) (waits.flies.ticket_is.queue_is ∙ sym c.enter-turn.ensures.place.number) c.enter-turn.ensures.seen c.take_room.ensures.entries refl
    (by-more g.V.Steps.entry g.V.Recorded.mark (g.V.Recorded.entries c.take_room.new.value) (g.V.Recorded.entries c.place.new.self) c.args.ticket _ step.1)

pub returns-in-More-clause-post : goal.returns-in-More-clause-post
returns-in-More-clause-post g c =
    let waits = c.requires.waits.2 in
    let step = c.in-More.ensures.step _ (flying-given g.V.Recorded.origin g.V.Recorded.entries g.V.Steps.run g.V.Steps.entry g.V.Recorded.mark c.args.lock.now c.args.seat.now c.enter-turn.result.value c.take_room.new.value _ c.args.ticket _ _ waits.flies (nonzero _ _ c.requires.post.queue_is) c.enter-turn.ensures.value c.known.ensures c.take_room.ensures.origin c.take_room.ensures.entries) in
    let goes_on = leaves-on g.V.Recorded.mark c.args.ticket.queue _ (g.V.Recorded.entries c.enter-turn.result.value) (g.V.Recorded.entries c.take_room.new.value) (g.V.Recorded.entries c.place.new.self) (g.V.Recorded.entries c.place.new.self) c.enter-turn.ensures.seen c.take_room.ensures.entries refl
    (by-more g.V.Steps.entry g.V.Recorded.mark (g.V.Recorded.entries c.take_room.new.value) (g.V.Recorded.entries c.place.new.self) c.args.ticket _ step.1) in
    post-kept c.args.gauge.now c.args.seat.now c.enter-turn.new.seat c.leave-in-More.new.seat (g.V.Recorded.entries c.enter-turn.result.value) (g.V.Recorded.entries c.place.new.self) c.args.pass.now c.args.pass.now
    c.enter-turn.ensures.place c.leave-in-More.ensures.place c.enter-turn.ensures.value.seen c.enter-turn.ensures.seen goes_on c.leave-in-More.ensures.seen c.requires.post.pass_is (prefix_refl _)

pub returns-in-More-clause-placed : goal.returns-in-More-clause-placed
returns-in-More-clause-placed g c = λ p x waits.
    let step = c.in-More.ensures.step _ (flying-given g.V.Recorded.origin g.V.Recorded.entries g.V.Steps.run g.V.Steps.entry g.V.Recorded.mark c.args.lock.now c.args.seat.now c.enter-turn.result.value c.take_room.new.value _ c.args.ticket _ _ waits.flies (nonzero _ _ c.requires.post.queue_is) c.enter-turn.ensures.value c.known.ensures c.take_room.ensures.origin c.take_room.ensures.entries) in
    turned-waits g.V.Recorded.origin g.V.Recorded.entries g.V.Steps.run g.V.Steps.entry g.V.Recorded.mark c.args.lock.now c.args.seat.now c.enter-turn.new.seat c.leave-in-More.new.seat c.enter-turn.result.value c.take_room.new.value c.place.new.self c.place.new.self
    (record {
      of_lock = waits.flies.at.of_lock;
      number = nonzero _ _ c.requires.post.queue_is;
      paced = waits.flies.paced;
      finds = c.enter-turn.ensures.value;
      seen_entered = c.enter-turn.ensures.seen;
      made_entered = c.enter-turn.ensures.made;
      turns_entered = c.enter-turn.ensures.turns;
      place_entered = c.enter-turn.ensures.place;
      given = c.known.ensures;
      origin_before = c.take_room.ensures.origin;
      entries_before = c.take_room.ensures.entries;
      origin_after = c.place.ensures.origin;
      entries_after = refl;
      left = c.known-in-More.ensures;
      seen = c.leave-in-More.ensures.seen;
      made = c.leave-in-More.ensures.made;
      no_turn = c.leave-in-More.ensures.no_turn;
      turns = c.leave-in-More.ensures.turns;
      place = c.leave-in-More.ensures.place;
    })
    p c.args.ticket c.in-More.next x waits step.0 step.1

pub leave-requires-in-Ready-clause-goes_on : goal.leave-requires-in-Ready-clause-goes_on
leave-requires-in-Ready-clause-goes_on g c =
    let waits = c.requires.waits.2 in
    let step = c.in-Ready.ensures.step _ (flying-given g.V.Recorded.origin g.V.Recorded.entries g.V.Steps.run g.V.Steps.entry g.V.Recorded.mark c.args.lock.now c.args.seat.now c.enter-turn.result.value c.take_room.new.value _ c.args.ticket _ _ waits.flies (nonzero _ _ c.requires.post.queue_is) c.enter-turn.ensures.value c.known.ensures c.take_room.ensures.origin c.take_room.ensures.entries) in
    leaves-on g.V.Recorded.mark c.args.ticket.queue _ (g.V.Recorded.entries c.enter-turn.result.value) (g.V.Recorded.entries c.take_room.new.value) (g.V.Recorded.entries c.place.new.self) (g.V.Recorded.entries c.place.new.self) c.enter-turn.ensures.seen c.take_room.ensures.entries refl
    (by-own g.V.Recorded.mark c.args.ticket.queue g.V.Steps.entry (g.V.Recorded.entries c.take_room.new.value) (g.V.Recorded.entries c.place.new.self) _ step.1.adds)

pub leave-requires-in-Ready-clause-own_entries : goal.leave-requires-in-Ready-clause-own_entries
leave-requires-in-Ready-clause-own_entries g c =
    let waits = c.requires.waits.2 in
    let step = c.in-Ready.ensures.step _ (flying-given g.V.Recorded.origin g.V.Recorded.entries g.V.Steps.run g.V.Steps.entry g.V.Recorded.mark c.args.lock.now c.args.seat.now c.enter-turn.result.value c.take_room.new.value _ c.args.ticket _ _ waits.flies (nonzero _ _ c.requires.post.queue_is) c.enter-turn.ensures.value c.known.ensures c.take_room.ensures.origin c.take_room.ensures.entries) in
    leaves-own g.V.Recorded.mark c.args.ticket.queue _ _ (g.V.Recorded.entries c.enter-turn.result.value) (g.V.Recorded.entries c.take_room.new.value) (g.V.Recorded.entries c.place.new.self) (g.V.Recorded.entries c.place.new.self) (waits.flies.ticket_is.queue_is ∙ sym c.enter-turn.ensures.place.number) c.enter-turn.ensures.seen c.take_room.ensures.entries refl
    (by-own g.V.Recorded.mark c.args.ticket.queue g.V.Steps.entry (g.V.Recorded.entries c.take_room.new.value) (g.V.Recorded.entries c.place.new.self) _ step.1.adds)

pub returns-in-Ready-clause-post : goal.returns-in-Ready-clause-post
returns-in-Ready-clause-post g c =
    let waits = c.requires.waits.2 in
    let step = c.in-Ready.ensures.step _ (flying-given g.V.Recorded.origin g.V.Recorded.entries g.V.Steps.run g.V.Steps.entry g.V.Recorded.mark c.args.lock.now c.args.seat.now c.enter-turn.result.value c.take_room.new.value _ c.args.ticket _ _ waits.flies (nonzero _ _ c.requires.post.queue_is) c.enter-turn.ensures.value c.known.ensures c.take_room.ensures.origin c.take_room.ensures.entries) in
    let goes_on = leaves-on g.V.Recorded.mark c.args.ticket.queue _ (g.V.Recorded.entries c.enter-turn.result.value) (g.V.Recorded.entries c.take_room.new.value) (g.V.Recorded.entries c.place.new.self) (g.V.Recorded.entries c.place.new.self) c.enter-turn.ensures.seen c.take_room.ensures.entries refl
    (by-own g.V.Recorded.mark c.args.ticket.queue g.V.Steps.entry (g.V.Recorded.entries c.take_room.new.value) (g.V.Recorded.entries c.place.new.self) _ step.1.adds) in
    post-kept c.args.gauge.now c.args.seat.now c.enter-turn.new.seat c.leave-in-Ready.new.seat (g.V.Recorded.entries c.enter-turn.result.value) (g.V.Recorded.entries c.place.new.self) c.args.pass.now c.args.pass.now
    c.enter-turn.ensures.place c.leave-in-Ready.ensures.place c.enter-turn.ensures.value.seen c.enter-turn.ensures.seen goes_on c.leave-in-Ready.ensures.seen c.requires.post.pass_is (prefix_refl _)

pub returns-in-Ready-clause-placed : goal.returns-in-Ready-clause-placed
returns-in-Ready-clause-placed g c = λ p x waits.
    let step = c.in-Ready.ensures.step _ (flying-given g.V.Recorded.origin g.V.Recorded.entries g.V.Steps.run g.V.Steps.entry g.V.Recorded.mark c.args.lock.now c.args.seat.now c.enter-turn.result.value c.take_room.new.value _ c.args.ticket _ _ waits.flies (nonzero _ _ c.requires.post.queue_is) c.enter-turn.ensures.value c.known.ensures c.take_room.ensures.origin c.take_room.ensures.entries) in
    turned-ready g.V.Recorded.origin g.V.Recorded.entries g.V.Steps.run g.V.Steps.entry g.V.Recorded.mark c.args.lock.now c.args.seat.now c.enter-turn.new.seat c.leave-in-Ready.new.seat c.enter-turn.result.value c.take_room.new.value c.place.new.self c.place.new.self
    (record {
      of_lock = waits.flies.at.of_lock;
      number = nonzero _ _ c.requires.post.queue_is;
      paced = waits.flies.paced;
      finds = c.enter-turn.ensures.value;
      seen_entered = c.enter-turn.ensures.seen;
      made_entered = c.enter-turn.ensures.made;
      turns_entered = c.enter-turn.ensures.turns;
      place_entered = c.enter-turn.ensures.place;
      given = c.known.ensures;
      origin_before = c.take_room.ensures.origin;
      entries_before = c.take_room.ensures.entries;
      origin_after = c.place.ensures.origin;
      entries_after = refl;
      left = c.known-in-Ready.ensures;
      seen = c.leave-in-Ready.ensures.seen;
      made = c.leave-in-Ready.ensures.made;
      no_turn = c.leave-in-Ready.ensures.no_turn;
      turns = c.leave-in-Ready.ensures.turns;
      place = c.leave-in-Ready.ensures.place;
    })
    p c.args.ticket c.in-Ready.next x waits.count waits.flies step.0 step.1 step.2
