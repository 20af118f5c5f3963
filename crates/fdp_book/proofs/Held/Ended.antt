-- What the end of a command whose change is not made leaves of the tables.
use Rattle.std.proofs.Common.{◌≡◌, ℕ, ◌+◌, ◌<◌, Bool, List, [], ◌∷◌, ◌++◌, length, Option, Some, None, slice_set, refl, sym, ◌∙◌, ap, subst, arith, cond, inl}
use Rattle.std.specs.Prelude.{IsFalse, IsTrue, if◌then◌else◌, not}
use Rattle.std.proofs.Math.ListN.{length-set}
use Rattle.fdp_base.specs.declared.command.Command.{Command}
use Rattle.fdp_base.specs.declared.config.DriveConfig.{DriveConfig}
use Rattle.fdp_base.specs.declared.entry.Entry.{Entry}
use Rattle.fdp_base.specs.declared.entry.Reply.{Reply}
use Rattle.fdp_base.specs.declared.entry.Spot.{Spot}
use Rattle.fdp_base.specs.CommandKinds.{is_write}
use Rattle.fdp_base.specs.Numbers.{with_at}
use Rattle.fdp_book.specs.declared.flight.Flight.{Flight}
use Rattle.fdp_book.specs.declared.tables.Tables.{Tables}
use Rattle.fdp_book.specs.Forgetting.{Forgets}
use Rattle.fdp_book.specs.Held.{AreFlightsOf, IsHeld, IsMapOf, flight_in, going_of, lead_in}
use Rattle.fdp_book.specs.Outlined.{Counts, IsOutlineBehind}
use Rattle.fdp_book.proofs.Flights.Rows.{flown-set, going-set}
use Rattle.fdp_book.proofs.Held.Next.{held-after}
use Rattle.fdp_history.specs.Listed.{IsListed}
use Rattle.fdp_history.proofs.Listing.{unmade-listed}
use Rattle.fdp_book.proofs.Held.Started.{copies-same}
use Rattle.fdp_book.proofs.Held.Unmade.{led-unmade, named-ended, named-same}
use Rattle.fdp_book.proofs.Kept.{IsAlike, flight-alike, flights-alike, map-alike}
use Rattle.fdp_book.proofs.Leading.{its-pages, leads-same, leads-without, live-known, live_of}
use Rattle.fdp_book.proofs.Outlining.{behind-counted, namespaces-said}
use Rattle.fdp_history.proofs.Points.{orderly-ended}
use Rattle.fdp_history.proofs.Standing.{standing-ended}
use Rattle.fdp_readings.specs.fdp_locations.Located.{LeadsTo}
use Rattle.fdp_readings.specs.fdp_locations.Written.{Written, written_by}
use Rattle.fdp_readings.proofs.fdp_locations.Ended.{ends-as, host, owners-released}
use Rattle.fdp_readings.proofs.fdp_locations.Units.{HasSameUnits, alike-self, owners-alike, owners-next, units-same}
use Rattle.fdp_owners.specs.OwnerTable.{owner_at}
use Rattle.fdp_readings.specs.fdp_pages.PageTables.{PageTables, passes_at}
use Rattle.fdp_readings.specs.fdp_pages.Steps.{without}
use Rattle.fdp_passes.specs.GroupPasses.{GroupPasses}
use Rattle.fdp_pointers.specs.Contents.{ended_by}
use Rattle.fdp_pointers.specs.Pointers.{Pointer, is_of_another, only, renamed}
use Rattle.fdp_rules.specs.Change.{after, changed_by, is_media_error}
use Rattle.fdp_rules.specs.Effect.{effect_of}
use Rattle.fdp_rules.specs.History.{Found, point_of}
use Rattle.fdp_rules.specs.Next.{next}
use Rattle.fdp_rules.specs.PlainState.{Going, PlainState}
use Rattle.fdp_rules.specs.Point.{Point}
use Rattle.fdp_rules.specs.Sites.{is_there}
use Rattle.fdp_rules.specs.Step.{IsOnTarget, IsQueue}
use Rattle.fdp_snapshot.specs.declared.state.Summary.{Summary}
use Rattle.fdp_readings.specs.fdp_trails.Followed.{IsPassOf}
use Rattle.fdp_readings.proofs.fdp_trails.Grouping.{all-renamed}

-- the state after the end of a command whose change is not made
abbrev ended_state : PlainState → ℕ → Command → Reply → ℕ → PlainState
ended_state s queue command reply moment = record s {
  position = s.position + 1;
  going = if is_write command then with_at s.going queue None else s.going;
  media = if is_media_error reply.status then moment ∷ s.media else s.media;
}

ended-after : (c : DriveConfig) (s : PlainState) (queue number : ℕ) (command : Command) (reply : Reply) (moment : ℕ) → IsFalse reply.applied → after c s (host queue number command reply moment) ≡ ended_state s queue command reply moment
unfolding after changed_by
ended-after c s queue number command reply moment unmade =
    ap (λ (b : Bool). record (cond b (effect_of c s queue command) s) {
      position = s.position + 1;
      going = if is_write command then with_at s.going queue None else s.going;
      media = if is_media_error reply.status then moment ∷ s.media else s.media;
    }) unmade

ended-state : (c : DriveConfig) (p : Point) (queue number : ℕ) (command : Command) (reply : Reply) (moment : ℕ) → IsFalse reply.applied → (next c p (host queue number command reply moment)).state ≡ ended_state p.state queue command reply moment
unfolding next
ended-state c p queue number command reply moment unmade = ended-after c p.state queue number command reply moment unmade

-- what a state keeps whose position, going writes and media errors alone change
pub record IsKept (s n : PlainState) : Type 0 where
  pub alike : IsAlike s n
  pub units : HasSameUnits s n
  pub blocks : n.blocks ≡ s.blocks

ended-kept : (c : DriveConfig) (p : Point) (queue number : ℕ) (command : Command) (reply : Reply) (moment : ℕ) → IsFalse reply.applied → IsKept p.state (next c p (host queue number command reply moment)).state
ended-kept c p queue number command reply moment unmade =
    let e = ended-state c p queue number command reply moment unmade in
    subst (λ (n : PlainState). IsKept p.state n) (sym e) (record {
      alike = record { enabled = refl; index = refl; generation = refl; namespaces = refl };
      units = record { enabled = refl; index = refl; references = refl; is_lost = refl; is_worn = refl };
      blocks = refl;
    })

ended-going : (c : DriveConfig) (p : Point) (queue number : ℕ) (command : Command) (reply : Reply) (moment : ℕ) → IsFalse reply.applied → (next c p (host queue number command reply moment)).state.going ≡ (if is_write command then with_at p.state.going queue None else p.state.going)
ended-going c p queue number command reply moment unmade = ap (λ (s : PlainState). s.going) (ended-state c p queue number command reply moment unmade)

-- the outline behind it only counts
outline-ended : (c : DriveConfig) (found : Found) (first : Spot → Option Written) (es : List Entry) (t : Tables) (outline : Summary) (queue number : ℕ) (command : Command) (reply : Reply) (moment : ℕ) → IsHeld c found first es t → IsFalse reply.applied → Counts 0 0 t.outline outline → IsOutlineBehind c found es (host queue number command reply moment) outline
outline-ended c found first es t outline queue number command reply moment h unmade counts =
    behind-counted c found es (host queue number command reply moment) t.outline outline (ap not unmade) h.orderly h.standing (λ wrong. absurd cc) h.outline_is h.few counts

-- a flight less
pub flights-less : (c : DriveConfig) (s n : PlainState) (flights new : List (Option Flight)) (queue : ℕ) → queue < length flights → IsAlike s n → n.going ≡ with_at s.going queue None → new ≡ slice_set flights queue None → AreFlightsOf c s flights → AreFlightsOf c n new
flights-less c s n flights new queue there a going is h =
    subst (λ (xs : List (Option Flight)). AreFlightsOf c n xs) (sym is)
    (record {
      rows = length-set flights queue None ∙ h.rows;
      going = λ k. ap (λ (f : ℕ → Option Going). f k) going ∙ going-set s.going flights queue None None there refl h.going k;
      target = flown-set (λ x. IsTrue (is_there n (going_of x)) → IsOnTarget c n (going_of x)) flights queue None there (λ x e. absurd cc) (λ k x e. flight-alike c s n x a (h.target k x e));
    })

-- the passes stay
pub passes-same : (t now : PageTables) → now.passes ≡ t.passes → (rg : ℕ) → (passes_at now rg).pass ≡ (passes_at t rg).pass
passes-same t now same rg = ap (λ (ps : List GroupPasses). (passes_at (record t { passes = ps }) rg).pass) same

-- the end of a command whose change is not made keeps the lists
listed-ended : (c : DriveConfig) (p : Point) (queue number : ℕ) (command : Command) (reply : Reply) (moment : ℕ) → IsListed c p.state → IsFalse reply.applied → IsListed c (next c p (host queue number command reply moment)).state
unfolding next
listed-ended c p queue number command reply moment h unmade = unmade-listed c p.state (host queue number command reply moment) unmade h

-- the end of a write: none is going in its queue any more
pub held-ended : (c : DriveConfig) (found : Found) (first : Spot → Option Written) (es : List Entry) (t now : Tables) (outline : Summary) (queue number : ℕ) (command : Command) (reply : Reply) (moment : ℕ) (old : Option Flight) →
    IsHeld c found first es t → IsQueue c queue → IsTrue (is_write command) → IsFalse reply.applied → Forgets t now queue old → Counts 0 0 t.outline outline →
    IsHeld c found first (es ++ host queue number command reply moment ∷ []) (record now { outline = outline })
held-ended c found first es t now outline queue number command reply moment old h queue_is write unmade forgets counts =
    let e : Entry = host queue number command reply moment in
    let p : Point = point_of c found es in
    let q : Point = next c p e in
    let kept = ended-kept c p queue number command reply moment unmade in
    let there : queue < length t.flights.items = omega (arith, queue_is.1, h.flights_are.rows) in
    let pages = h.pages_are in
    let r : Pointer → Option Pointer = only (is_of_another queue) in
    let going : q.state.going ≡ with_at p.state.going queue None = ended-going c p queue number command reply moment unmade ∙ ap (λ (b : Bool). if b then with_at p.state.going queue None else p.state.going) write in
    let owners : owner_at now.pages.owners ≡ without (owner_at t.pages.owners) (live_of p.state (flight_in t.flights.items queue)) =
    forgets.owners ∙ ap (without (owner_at t.pages.owners)) (live-known p.state t.outline (flight_in t.flights.items queue) (namespaces-said c p t.outline h.outline_is)) in
    let is : ended_by p.state queue reply.applied command ≡ r = ends-as p.state queue reply.applied command unmade ∙ ap (λ (b : Bool). if b then r else Some) write in
    held-after c found first es e t (record now { outline = outline }) h (orderly-ended c p queue number command reply moment h.orderly unmade) (standing-ended c p queue number command reply moment h.orderly h.standing unmade) (listed-ended c p queue number command reply moment h.listed unmade)
    (record {
      map_is = subst (λ (x : Tables). IsMapOf c q.state x.map) (sym forgets.rest) (map-alike c p.state q.state t.map kept.alike kept.blocks h.map_is);
      flights_are = flights-less c p.state q.state t.flights.items now.flights.items queue there kept.alike going forgets.flights_are h.flights_are;
      units_are = units-same c p.state q.state t.pages now.pages kept.units (owners-alike t.pages now.pages forgets.pages) forgets.pages.handles h.units_are;
    })
    (outline-ended c found first es t outline queue number command reply moment h unmade counts)
    (record {
      at = renamed r pages.at;
      led = led-unmade c p queue number command reply moment (written_by c found first es) r pages.at t.pages now.pages h.orderly.state unmade is
          (owners-released (owner_at t.pages.owners) (owner_at now.pages.owners) pages.at queue (live_of p.state (flight_in t.flights.items queue)) pages.led.owned (its-pages p.state t.map t.flights.items pages.at queue pages.led.table.apart pages.leads) owners)
          (named-ended p.state q.state queue pages.at going pages.led.named)
          (λ unit. omega (arith, owners-next t.pages now.pages forgets.pages unit))
          (subst (λ (k : Pointer → Option Pointer). (rg : ℕ) → rg < c.groups → IsPassOf (renamed k pages.at) q.trail rg (passes_at now.pages rg)) is
          (all-renamed c p e pages.at c.groups (passes_at t.pages) (passes_at now.pages) refl (λ rg low. inl (passes-same t.pages now.pages forgets.pages.passes rg)) (λ rg low ends. absurd cc) pages.led.passes))
          (copies-same t.pages now.pages forgets.pages.passes)
          pages.led;
      leads = subst (λ (x : Tables). LeadsTo (lead_in q.state x.map now.flights.items) (renamed r pages.at)) (sym forgets.rest)
          (leads-without p.state q.state t.map t.flights.items now.flights.items queue None pages.at kept.alike.namespaces there forgets.flights_are (λ x none. absurd cc) pages.leads);
    })

-- the answer to another command: all else stays
pub held-answered : (c : DriveConfig) (found : Found) (first : Spot → Option Written) (es : List Entry) (t : Tables) (outline : Summary) (queue number : ℕ) (command : Command) (reply : Reply) (moment : ℕ) →
    IsHeld c found first es t → IsFalse (is_write command) → IsFalse reply.applied → Counts 0 0 t.outline outline →
    IsHeld c found first (es ++ host queue number command reply moment ∷ []) (record t { outline = outline })
held-answered c found first es t outline queue number command reply moment h other unmade counts =
    let e : Entry = host queue number command reply moment in
    let p : Point = point_of c found es in
    let q : Point = next c p e in
    let kept = ended-kept c p queue number command reply moment unmade in
    let pages = h.pages_are in
    let going : q.state.going ≡ p.state.going = ended-going c p queue number command reply moment unmade ∙ ap (λ (b : Bool). if b then with_at p.state.going queue None else p.state.going) other in
    let is : ended_by p.state queue reply.applied command ≡ Some = ends-as p.state queue reply.applied command unmade ∙ ap (λ (b : Bool). if b then only (is_of_another queue) else Some) other in
    held-after c found first es e t (record t { outline = outline }) h (orderly-ended c p queue number command reply moment h.orderly unmade) (standing-ended c p queue number command reply moment h.orderly h.standing unmade) (listed-ended c p queue number command reply moment h.listed unmade)
    (record {
      map_is = map-alike c p.state q.state t.map kept.alike kept.blocks h.map_is;
      flights_are = flights-alike c p.state q.state t.flights.items kept.alike going h.flights_are;
      units_are = units-same c p.state q.state t.pages t.pages kept.units (alike-self t.pages.units) refl h.units_are;
    })
    (outline-ended c found first es t outline queue number command reply moment h unmade counts)
    (record {
      at = pages.at;
      led = led-unmade c p queue number command reply moment (written_by c found first es) Some pages.at t.pages t.pages h.orderly.state unmade is pages.led.owned (named-same p.state q.state pages.at going pages.led.named) (λ unit. omega arith)
          (subst (λ (k : Pointer → Option Pointer). (rg : ℕ) → rg < c.groups → IsPassOf (renamed k pages.at) q.trail rg (passes_at t.pages rg)) is
          (all-renamed c p e pages.at c.groups (passes_at t.pages) (passes_at t.pages) refl (λ rg low. inl refl) (λ rg low ends. absurd cc) pages.led.passes))
          (λ rg x among. among)
          pages.led;
      leads = leads-same p.state q.state t.map t.flights.items pages.at kept.alike.namespaces pages.leads;
    })
