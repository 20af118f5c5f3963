use Rattle.std.proofs.Common.{◌≡◌, ◌∷◌, [], List, arith, subst, sym}
use Rattle.std.specs.Prelude.{map}
use mathlib.Core.List.{map-append}
use Rattle.std.proofs.lemmas.List.Elements.{All-push}
use Rattle.fdp_workers.specs.declared.ends.End.{End}
use Rattle.fdp_workers.specs.declared.ends.End.TheVariants as ends
use Rattle.fdp_crews.specs.Leaving.{IsSomeNotWhole}
use Rattle.fdp_crews.proofs.Left.{put-more, some-more}
use Rattle.fdp_crews.proofs.leaving.dismiss_hosts.Goals as goal

pub loop-worker-preserved : goal.loop-worker-preserved
loop-worker-preserved g c =
    let i = c.loop-worker.invariant in
    let w = c.in-Some.worker in
    record {
      seats = put-more (λ w. w.seat) c.args.seats.now.items c.loop-worker.seats.items c.push_reserved.new.self.items c.loop-worker.yielded w i.seats c.push_reserved.ensures.items;
      passes = put-more (λ w. w.pass) c.args.passes.now.items c.loop-worker.passes.items c.push_reserved-in-loop-worker.new.self.items c.loop-worker.yielded w i.passes c.push_reserved-in-loop-worker.ensures.items;
      room_for_seats = omega (arith, i.room_for_seats, c.push_reserved.ensures.capacity);
      room_for_passes = omega (arith, i.room_for_passes, c.push_reserved-in-loop-worker.ensures.capacity);
      receipts = put-more (λ w. w.receipts) c.args.receipts.now.items c.loop-worker.receipts.items c.push_reserved-in-loop-worker-2.new.self.items c.loop-worker.yielded w i.receipts c.push_reserved-in-loop-worker-2.ensures.items;
      room_for_receipts = omega (arith, i.room_for_receipts, c.push_reserved-in-loop-worker-2.ensures.capacity);
      whole = λ is. All-push (λ w. w.end ≡ ends.Whole) c.loop-worker.yielded w (i.whole (c.both-end.ensures.whole is).0) (c.both-end.ensures.whole is).1;
      left = λ not. subst (λ (xs : List End). IsSomeNotWhole xs) (sym (map-append (λ w. w.end) c.loop-worker.yielded (w ∷ [])))
          (some-more (map (λ w. w.end) c.loop-worker.yielded) w.end c.loop-worker.end (c.both-end.ensures.first not) i.left);
    }
