use Rattle.fdp_workers.proofs.Seating.{adds-nothing}
use Rattle.fdp_workers.proofs.collectors.collect.Goals as goal

pub returns-then-eq-clause-nothing : goal.returns-then-eq-clause-nothing
returns-then-eq-clause-nothing g c =
    adds-nothing g.V.Recorded.mark c.args.seat.now c.enter-turn.new.seat c.leave-2.new.seat (g.V.Recorded.entries c.enter-turn.result.value) (g.V.Recorded.entries c.take_room.new.value) (g.V.Recorded.entries c.collect-advance.new.self)
    c.enter-turn.ensures.place c.leave-2.ensures.place c.enter-turn.ensures.value.seen c.enter-turn.ensures.seen c.take_room.ensures.entries c.collect-advance.ensures.step c.leave-2.ensures.seen c.enter-turn.ensures.made c.leave-2.ensures.made

pub returns-else-eq-clause-nothing : goal.returns-else-eq-clause-nothing
returns-else-eq-clause-nothing g c =
    adds-nothing g.V.Recorded.mark c.args.seat.now c.enter-turn.new.seat c.leave-2.new.seat (g.V.Recorded.entries c.enter-turn.result.value) (g.V.Recorded.entries c.take_room.new.value) (g.V.Recorded.entries c.collect-advance.new.self)
    c.enter-turn.ensures.place c.leave-2.ensures.place c.enter-turn.ensures.value.seen c.enter-turn.ensures.seen c.take_room.ensures.entries c.collect-advance.ensures.step c.leave-2.ensures.seen c.enter-turn.ensures.made c.leave-2.ensures.made
