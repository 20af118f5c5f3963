use Rattle.std.proofs.Common.{arith, subst}
use Rattle.fdp_workers.specs.Hosting.{PlacesAt}
use Rattle.fdp_workers.proofs.Posts.{post-first}
use Rattle.fdp_workers.proofs.hosts.end_write.Goals as goal

pub loop-placed-init : goal.loop-placed-init
loop-placed-init g c = record { post = post-first c.args.gauge.now c.args.seat.now c.args.pass.now c.requires.post.pass_is; waits = λ p x waits. waits }

pub place-requires-clause-waits : goal.place-requires-clause-waits
place-requires-clause-waits g c = let flies = c.requires.flies in (flies.0, flies.1, c.loop-placed.invariant.waits flies.0 flies.1 flies.2)

pub end-requires-clause-ready : goal.end-requires-clause-ready
end-requires-clause-ready g c =
    let flies = c.requires.flies in
    (flies.0, flies.1, subst (PlacesAt g.V.Recorded.origin g.V.Steps.run g.V.Steps.entry g.V.Recorded.mark c.args.lock.now flies.0 flies.1 c.place.new.seat c.place.new.pass) c.in-Ready.is (c.in-Ok.ensures.placed flies.0 flies.1 (c.loop-placed.invariant.waits flies.0 flies.1 flies.2)))

pub returns-in-Ready-clause-ended : goal.returns-in-Ready-clause-ended
returns-in-Ready-clause-ended g c = λ p x waits. c.end.ensures.ended p x (subst (PlacesAt g.V.Recorded.origin g.V.Steps.run g.V.Steps.entry g.V.Recorded.mark c.args.lock.now p x c.place.new.seat c.place.new.pass) c.in-Ready.is (c.in-Ok.ensures.placed p x (c.loop-placed.invariant.waits p x waits)))

pub returns-in-Ended-clause-ended : goal.returns-in-Ended-clause-ended
returns-in-Ended-clause-ended g c = λ p x waits. subst (PlacesAt g.V.Recorded.origin g.V.Steps.run g.V.Steps.entry g.V.Recorded.mark c.args.lock.now p x c.place.new.seat c.place.new.pass) c.in-Ended.is (c.in-Ok.ensures.placed p x (c.loop-placed.invariant.waits p x waits))

pub returns-in-Err-clause-ended : goal.returns-in-Err-clause-ended
returns-in-Err-clause-ended g c = λ p x waits. c.in-Err.ensures.placed p x (c.loop-placed.invariant.waits p x waits)

pub loop-placed-smaller : goal.loop-placed-smaller
loop-placed-smaller g c =
    let flies = c.requires.flies in
    let waits = c.loop-placed.invariant.waits flies.0 flies.1 flies.2 in
    omega (arith, waits.flies.paced.few, c.place.ensures.turns)
