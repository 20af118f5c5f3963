-- The pages of a write that is forgotten have owners.
use Rattle.std.proofs.Common.{◌≡◌, ℕ, zero, suc, List, [], ◌∷◌, Option, refl, sym, ap, subst, arith, slice_set}
use Rattle.fdp_base.specs.declared.config.DriveConfig.{DriveConfig}
use Rattle.fdp_base.specs.declared.entry.Entry.{Entry}
use Rattle.fdp_base.specs.declared.entry.Spot.{Spot}
use Rattle.fdp_book.specs.declared.tables.Tables.{Tables}
use Rattle.fdp_book.specs.Forgetting.{MayForget}
use Rattle.fdp_book.specs.Held.{IsHeld, flight_in}
use Rattle.fdp_book.proofs.Outlining.{namespaces-said}
use Rattle.fdp_book.proofs.Leading.{live-known, pages-owned}
use Rattle.fdp_book.proofs.Outlining.{namespaces-said}
use Rattle.fdp_readings.specs.fdp_locations.Written.{Written}
use Rattle.fdp_readings.specs.fdp_pages.Steps.{AreOwned}
use Rattle.fdp_rules.specs.History.{Found, point_of}
use Rattle.fdp_rules.specs.Step.{IsQueue}

pub may-forget : (c : DriveConfig) (found : Found) (first : Spot → Option Written) (es : List Entry) (t : Tables) (queue : ℕ) → IsHeld c found first es t → IsQueue c queue → MayForget t queue
may-forget c found first es t queue h queue_is = record {
  queue_is = omega (arith, queue_is.1, h.flights_are.rows);
  owned = subst (λ (xs : List Spot). AreOwned t.pages.owners xs) (sym (live-known (point_of c found es).state t.outline (flight_in t.flights.items queue) (namespaces-said c (point_of c found es) t.outline h.outline_is)))
      (pages-owned (point_of c found es).state t.map t.flights.items h.pages_are.at t.pages.owners queue h.pages_are.led.owned h.pages_are.led.table.apart h.pages_are.leads);
}

-- what was put last counts
pub set-twice : {X : Type 0} (xs : List X) (i : ℕ) (x y : X) → slice_set (slice_set xs i x) i y ≡ slice_set xs i y
set-twice [] zero x y = refl
set-twice [] (suc i) x y = refl
set-twice (z ∷ zs) zero x y = refl
set-twice (z ∷ zs) (suc i) x y = ap (λ ws. z ∷ ws) (set-twice zs i x y)
