-- What a setting of events leaves of the tables: all but the outline.
use Rattle.std.proofs.Common.{◌≡◌, ℕ, true, List, [], ◌∷◌, ◌++◌, Option, refl, arith}
use Rattle.fdp_base.specs.declared.command.Command.TheVariants as commands
use Rattle.fdp_base.specs.declared.command.SetEvents.{SetEvents}
use Rattle.fdp_base.specs.declared.config.DriveConfig.{DriveConfig}
use Rattle.fdp_base.specs.declared.entry.Entry.{Entry}
use Rattle.fdp_base.specs.declared.entry.Spot.{Spot}
use Rattle.fdp_book.specs.declared.tables.Tables.{Tables}
use Rattle.fdp_book.specs.Held.{IsHeld}
use Rattle.fdp_book.specs.Outlined.{IsOutlineBehind}
use Rattle.fdp_book.proofs.Held.Applied.{applied_entry, applied-going, held-applied}
use Rattle.fdp_book.proofs.Kept.{IsAlike, flights-alike, map-alike}
use Rattle.fdp_book.proofs.Leading.{leads-same}
use Rattle.fdp_readings.specs.fdp_locations.Written.{Written}
use Rattle.fdp_readings.proofs.fdp_locations.Units.{HasSameUnits, alike-self, units-same}
use Rattle.fdp_rules.specs.Change.{after, changed_by}
use Rattle.fdp_rules.specs.Effect.{effect_of}
use Rattle.fdp_rules.specs.History.{Found, point_of}
use Rattle.fdp_rules.specs.Next.{next}
use Rattle.fdp_rules.specs.PlainState.{PlainState}
use Rattle.fdp_rules.specs.Point.{Point}
use Rattle.fdp_rules.specs.Step.{Follows}
use Rattle.fdp_snapshot.specs.declared.state.Summary.{Summary}

record IsListening (s n : PlainState) : Type 0 where
  alike : IsAlike s n
  units : HasSameUnits s n
  blocks : n.blocks ≡ s.blocks

listening-is : (c : DriveConfig) (p : Point) (queue number : ℕ) (x : SetEvents) (moment : ℕ) → IsListening p.state (next c p (applied_entry queue number (commands.SetEvents x) p.state moment)).state
unfolding next after changed_by effect_of
listening-is c p queue number x moment = record {
  alike = record { enabled = refl; index = refl; generation = refl; namespaces = refl };
  units = record { enabled = refl; index = refl; references = refl; is_lost = refl; is_worn = refl };
  blocks = refl;
}

pub held-listened : (c : DriveConfig) (found : Found) (first : Spot → Option Written) (es : List Entry) (t : Tables) (queue number : ℕ) (x : SetEvents) (moment : ℕ) (outline : Summary) →
    IsHeld c found first es t → Follows true c (point_of c found es) (applied_entry queue number (commands.SetEvents x) (point_of c found es).state moment) → IsOutlineBehind c found es (applied_entry queue number (commands.SetEvents x) (point_of c found es).state moment) outline →
    IsHeld c found first (es ++ applied_entry queue number (commands.SetEvents x) (point_of c found es).state moment ∷ []) (record t { outline = outline })
held-listened c found first es t queue number x moment outline h follows behind =
    let p : Point = point_of c found es in
    let q : Point = next c p (applied_entry queue number (commands.SetEvents x) p.state moment) in
    let is : IsListening p.state q.state = listening-is c p queue number x moment in
    held-applied c found first es t (record t { outline = outline }) queue number (commands.SetEvents x) moment h follows refl
    (record {
      map_is = map-alike c p.state q.state t.map is.alike is.blocks h.map_is;
      flights_are = flights-alike c p.state q.state t.flights.items is.alike (applied-going c p queue number (commands.SetEvents x) moment refl) h.flights_are;
      units_are = units-same c p.state q.state t.pages t.pages is.units (alike-self t.pages.units) refl h.units_are;
    })
    behind
    (record {
      owned = h.pages_are.led.owned;
      up = λ unit. omega arith;
      passes = λ rg. refl;
      leads = leads-same p.state q.state t.map t.flights.items h.pages_are.at is.alike.namespaces h.pages_are.leads;
    })
