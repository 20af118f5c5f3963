-- What stays of a worker over several turns.
use Rattle.std.proofs.Common.{◌∙◌, subst, sym}
use Rattle.fdp_base.proofs.Records.{prefix_refl, prefix_trans}
use Rattle.fdp_gauge.specs.declared.gauge.Gauge.{Gauge}
use Rattle.fdp_gauge.specs.declared.gauge.Pass.{Pass}
use Rattle.fdp_gauge.specs.Passes as passes
use Rattle.fdp_lock.specs.declared.seat.Seat.{Seat}
use Rattle.fdp_lock.specs.Seats.{seen_of}
use Rattle.fdp_rules.specs.Step.{IsQueue}
use Rattle.std.proofs.Common.{refl}
use Rattle.fdp_workers.specs.Hosting.{IsPost, KeepsPost}
use Rattle.fdp_workers.specs.Run.{Run}

module _ {S O I : Type 0} {g : _} where
  pub post-first : (gauge : Gauge) (s : Seat S O I g) (pass : Pass) → passes.IsPassOf gauge pass → KeepsPost gauge s s pass pass
  post-first gauge s pass is = record {
    place = record { lock = refl; origin_is = refl; number = refl; parts = refl; given = refl };
    pass_is = is;
    seen = prefix_refl (seen_of s);
    shown = prefix_refl (passes.seen_of pass);
  }

  pub post-more : (gauge : Gauge) (s0 s1 s2 : Seat S O I g) (p0 p1 p2 : Pass) → KeepsPost gauge s0 s1 p0 p1 → KeepsPost gauge s1 s2 p1 p2 → KeepsPost gauge s0 s2 p0 p2
  post-more gauge s0 s1 s2 p0 p1 p2 a b = record {
    place = record {
      lock = b.place.lock ∙ a.place.lock;
      origin_is = b.place.origin_is ∙ a.place.origin_is;
      number = b.place.number ∙ a.place.number;
      parts = b.place.parts ∙ a.place.parts;
      given = b.place.given ∙ a.place.given;
    };
    pass_is = b.pass_is;
    seen = prefix_trans (seen_of s0) (seen_of s1) (seen_of s2) a.seen b.seen;
    shown = prefix_trans (passes.seen_of p0) (passes.seen_of p1) (passes.seen_of p2) a.shown b.shown;
  }

  -- it is still a host's
  pub post-still : (run : Run) (gauge : Gauge) (s0 s1 : Seat S O I g) (p0 p1 : Pass) → IsPost run gauge s0 p0 → KeepsPost gauge s0 s1 p0 p1 → IsPost run gauge s1 p1
  post-still run gauge s0 s1 p0 p1 is kept = record {
    queue_is = subst (IsQueue run.config) (sym kept.place.number) is.queue_is;
    gauge_is = is.gauge_is;
    pass_is = kept.pass_is;
  }
