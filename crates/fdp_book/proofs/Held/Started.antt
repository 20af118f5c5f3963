-- What the Started entry of a write leaves of the tables: a flight more, and the one before it forgotten.
use Rattle.std.proofs.Common.{◌≡◌, ℕ, ◌<◌, Bool, true, List, [], ◌∷◌, ◌++◌, length, Option, Some, slice_set, refl, sym, ◌∙◌, ap, subst, arith, inl}
use Rattle.std.specs.Prelude.{IsTrue, Contains}
use Rattle.std.proofs.Math.ListN.{length-set}
use Rattle.fdp_base.specs.declared.command.Command.{Command}
use Rattle.fdp_base.specs.declared.config.DriveConfig.{DriveConfig}
use Rattle.fdp_base.specs.declared.entry.Copied.{Copied}
use Rattle.fdp_base.specs.declared.entry.Entry.{Entry}
use Rattle.fdp_base.specs.declared.entry.Entry.TheVariants as entries
use Rattle.fdp_base.specs.declared.entry.Spot.{Spot}
use Rattle.fdp_base.specs.Numbers.{with_at}
use Rattle.fdp_book.specs.declared.flight.Flight.{Flight}
use Rattle.fdp_book.specs.declared.tables.Tables.{Tables}
use Rattle.fdp_book.specs.Forgetting.{Forgets}
use Rattle.fdp_book.specs.Held.{AreFlightsOf, IsHeld, IsMapOf, flight_in, going_of, lead_in}
use Rattle.fdp_book.specs.Outlined.{Counts}
use Rattle.fdp_book.proofs.Flights.Rows.{flown-set, going-set}
use Rattle.fdp_book.proofs.Held.Next.{held-next}
use Rattle.fdp_book.proofs.Kept.{IsAlike, flight-alike, map-alike}
use Rattle.fdp_book.proofs.Leading.{its-pages, leads-without, live-known, live_of}
use Rattle.fdp_book.proofs.Outlining.{behind-counted, namespaces-said}
use Rattle.fdp_readings.specs.fdp_locations.Located.{LeadsTo}
use Rattle.fdp_readings.specs.fdp_locations.Written.{Written, written_by}
use Rattle.fdp_readings.proofs.fdp_locations.Ended.{led-started, owners-released}
use Rattle.fdp_readings.proofs.fdp_locations.Units.{HasSameUnits, owners-alike, owners-next, units-same}
use Rattle.fdp_map.specs.MapTable.{MapTable}
use Rattle.fdp_owners.specs.OwnerTable.{owner_at}
use Rattle.fdp_readings.specs.fdp_pages.PageTables.{PageTables, copies_at, passes_at}
use Rattle.fdp_readings.specs.fdp_pages.Steps.{ChangesOwners, without}
use Rattle.fdp_passes.specs.GroupPasses.{GroupPasses}
use Rattle.fdp_pointers.specs.Pointers.{Pointer, is_of_another, only, renamed}
use Rattle.fdp_rules.specs.Change.{after, changed_by, started}
use Rattle.fdp_rules.specs.History.{Found, point_of}
use Rattle.fdp_rules.specs.Next.{next}
use Rattle.fdp_rules.specs.PlainState.{Going, PlainState}
use Rattle.fdp_rules.specs.Point.{Point}
use Rattle.fdp_rules.specs.Sites.{is_there}
use Rattle.fdp_rules.specs.Step.{Follows, IsOnTarget, IsStarted}
use Rattle.fdp_readings.proofs.fdp_trails.Grouping.{all-renamed}

-- a flight that was started as this going write, and has no page
pub record IsLetGo (c : DriveConfig) (p : Point) (queue number : ℕ) (command : Command) (f : Flight) : Type 0 where
  pub follows : IsStarted c p queue command f.rg f.ruh f.pid_valid
  pub going : going_of f ≡ started c p.state number command f.rg f.ruh f.pid_valid
  pub target : IsOnTarget c p.state (going_of f)
  pub empty : f.pages.items ≡ []

abbrev started-entry : ℕ → ℕ → Command → Flight → Entry
started-entry queue number command f = entries.Started (record { queue = queue; number = number; command = command; rg = f.rg; ruh = f.ruh; pid_valid = f.pid_valid })

started-alike : (c : DriveConfig) (p : Point) (queue number : ℕ) (command : Command) (f : Flight) → IsAlike p.state (next c p (started-entry queue number command f)).state
unfolding next after changed_by
started-alike c p queue number command f = record { enabled = refl; index = refl; generation = refl; namespaces = refl }

started-units : (c : DriveConfig) (p : Point) (queue number : ℕ) (command : Command) (f : Flight) → HasSameUnits p.state (next c p (started-entry queue number command f)).state
unfolding next after changed_by
started-units c p queue number command f = record { enabled = refl; index = refl; references = refl; is_lost = refl; is_worn = refl }

started-blocks : (c : DriveConfig) (p : Point) (queue number : ℕ) (command : Command) (f : Flight) → (next c p (started-entry queue number command f)).state.blocks ≡ p.state.blocks
unfolding next after changed_by
started-blocks c p queue number command f = refl

pub started-going : (c : DriveConfig) (p : Point) (queue number : ℕ) (command : Command) (rg ruh : ℕ) (pid_valid : Bool) → (next c p (entries.Started (record { queue = queue; number = number; command = command; rg = rg; ruh = ruh; pid_valid = pid_valid }))).state.going ≡ with_at p.state.going queue (Some (started c p.state number command rg ruh pid_valid))
unfolding next after changed_by
started-going c p queue number command rg ruh pid_valid = refl

follows-started : (c : DriveConfig) (p : Point) (queue number : ℕ) (command : Command) (f : Flight) → IsStarted c p queue command f.rg f.ruh f.pid_valid → Follows true c p (started-entry queue number command f)
unfolding Follows
follows-started c p queue number command f h = h

-- the flights with one more
flights-started : (c : DriveConfig) (p : Point) (flights new : List (Option Flight)) (queue number : ℕ) (command : Command) (f : Flight) → queue < length flights → IsLetGo c p queue number command f → new ≡ slice_set flights queue (Some f) → AreFlightsOf c p.state flights → AreFlightsOf c (next c p (started-entry queue number command f)).state new
flights-started c p flights new queue number command f there l is h =
    let n : PlainState = (next c p (started-entry queue number command f)).state in
    let a : IsAlike p.state n = started-alike c p queue number command f in
    subst (λ (xs : List (Option Flight)). AreFlightsOf c n xs) (sym is)
    (record {
      rows = length-set flights queue (Some f) ∙ h.rows;
      going = λ k. ap (λ (g : ℕ → Option Going). g k) (started-going c p queue number command f.rg f.ruh f.pid_valid) ∙ going-set p.state.going flights queue _ (Some f) there (ap Some (sym l.going)) h.going k;
      target = flown-set (λ x. IsTrue (is_there n (going_of x)) → IsOnTarget c n (going_of x)) flights queue (Some f) there
          (λ x e. let one : f ≡ x = cc in flight-alike c p.state n x a (λ _. subst (λ (y : Flight). IsOnTarget c p.state (going_of y)) one l.target))
          (λ k x e. flight-alike c p.state n x a (h.target k x e));
    })

-- what is forgotten, and a flight without pages, in place of what a queue had
pub record StartsFlight (t mid now : Tables) (queue : ℕ) (f : Flight) : Type 0 where
  pub old : Option Flight
  pub forgets : Forgets t mid queue old
  pub flights_are : now.flights.items ≡ slice_set t.flights.items queue (Some f)
  pub counts : Counts 0 0 t.outline now.outline
  pub map : now.map ≡ t.map
  pub pages : now.pages ≡ mid.pages

-- copies stay where the passes do
pub copies-same : (t now : PageTables) → now.passes ≡ t.passes → (k : ℕ) (x : Copied) → Contains (copies_at now k) x → Contains (copies_at t k) x
copies-same t now same k x has = subst (λ (ps : List GroupPasses). Contains (copies_at (record t { passes = ps }) k) x) same has

pub held-started : (c : DriveConfig) (found : Found) (first : Spot → Option Written) (es : List Entry) (t mid now : Tables) (queue number : ℕ) (command : Command) (f : Flight) →
    IsHeld c found first es t → IsLetGo c (point_of c found es) queue number command f → StartsFlight t mid now queue f →
    IsHeld c found first (es ++ started-entry queue number command f ∷ []) now
held-started c found first es t mid now queue number command f h l starts =
    let e : Entry = started-entry queue number command f in
    let p : Point = point_of c found es in
    let q : Point = next c p e in
    let a : IsAlike p.state q.state = started-alike c p queue number command f in
    let follows : Follows true c p e = follows-started c p queue number command f l.follows in
    let there : queue < length t.flights.items = omega (arith, l.follows.queue_is.1, h.flights_are.rows) in
    let r : Pointer → Option Pointer = only (is_of_another queue) in
    let pages = h.pages_are in
    let changes : ChangesOwners t.pages now.pages = subst (λ (x : PageTables). ChangesOwners t.pages x) (sym starts.pages) starts.forgets.pages in
    let owners : owner_at now.pages.owners ≡ without (owner_at t.pages.owners) (live_of p.state (flight_in t.flights.items queue)) =
    ap (λ (x : PageTables). owner_at x.owners) starts.pages ∙ starts.forgets.owners ∙ ap (without (owner_at t.pages.owners)) (live-known p.state t.outline (flight_in t.flights.items queue) (namespaces-said c p t.outline h.outline_is)) in
    held-next true c found first es e t now h follows
    (record {
      map_is = subst (λ (x : MapTable). IsMapOf c q.state x) (sym starts.map) (map-alike c p.state q.state t.map a (started-blocks c p queue number command f) h.map_is);
      flights_are = flights-started c p t.flights.items now.flights.items queue number command f there l starts.flights_are h.flights_are;
      units_are = units-same c p.state q.state t.pages now.pages (started-units c p queue number command f) (owners-alike t.pages now.pages changes) changes.handles h.units_are;
    })
    (behind-counted c found es e t.outline now.outline refl h.orderly h.standing (λ no. follows) h.outline_is h.few starts.counts)
    (record {
      at = renamed r pages.at;
      led = led-started true c p queue number command f.rg f.ruh f.pid_valid (written_by c found first es) pages.at t.pages now.pages h.orderly.state follows
          (owners-released (owner_at t.pages.owners) (owner_at now.pages.owners) pages.at queue (live_of p.state (flight_in t.flights.items queue)) pages.led.owned (its-pages p.state t.map t.flights.items pages.at queue pages.led.table.apart pages.leads) owners)
          (λ unit. omega (arith, owners-next t.pages now.pages changes unit))
          (all-renamed c p e pages.at c.groups (passes_at t.pages) (passes_at now.pages) refl (λ rg low. inl (ap (λ (ps : List GroupPasses). (passes_at (record t.pages { passes = ps }) rg).pass) changes.passes)) (λ rg low ends. absurd cc) pages.led.passes)
          (copies-same t.pages now.pages changes.passes)
          pages.led;
      leads = subst (λ (x : MapTable). LeadsTo (lead_in q.state x now.flights.items) (renamed r pages.at)) (sym starts.map)
          (leads-without p.state q.state t.map t.flights.items now.flights.items queue (Some f) pages.at a.namespaces there starts.flights_are (λ x is. let same : f ≡ x = cc in subst (λ (y : Flight). y.pages.items ≡ []) same l.empty) pages.leads);
    })

-- the tables with a flight more, after the entry that lets it go
pub held_started : (c : DriveConfig) (found : Found) (first : Spot → Option Written) (es longer : List Entry) (t mid now : Tables) (queue number : ℕ) (command : Command) (f : Flight) →
    IsHeld c found first es t → IsLetGo c (point_of c found es) queue number command f → StartsFlight t mid now queue f →
    longer ≡ es ++ entries.Started (record { queue = queue; number = number; command = command; rg = f.rg; ruh = f.ruh; pid_valid = f.pid_valid }) ∷ [] → IsHeld c found first longer now
held_started c found first es longer t mid now queue number command f h l starts is =
    subst (λ (xs : List Entry). IsHeld c found first xs now) (sym is) (held-started c found first es t mid now queue number command f h l starts)
