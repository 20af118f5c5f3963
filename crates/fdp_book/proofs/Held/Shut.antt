-- What a handle that is shut leaves of the tables.
use Rattle.std.proofs.Common.{◌≡◌, ◌≢◌, ℕ, ◌+◌, ◌≤◌, ◌<◌, Bool, true, List, [], ◌∷◌, ◌++◌, Option, refl, sym, ◌∙◌, ap, subst, arith, inl, eq-eqb, ne_eqb, ⊎_elim}
use Rattle.std.specs.Prelude.{if◌then◌else◌}
use Rattle.std.proofs.lemmas.Bool.{cases_eq}
use Rattle.fdp_base.specs.declared.config.DriveConfig.{DriveConfig}
use Rattle.fdp_base.specs.declared.entry.Entry.{Entry}
use Rattle.fdp_base.specs.declared.entry.Entry.TheVariants as entries
use Rattle.fdp_base.specs.declared.entry.Spot.{Spot}
use Rattle.fdp_base.specs.Numbers.{with_at}
use Rattle.fdp_book.specs.declared.tables.Tables.{Tables}
use Rattle.fdp_book.specs.Held.{IsHeld}
use Rattle.fdp_book.specs.Outlined.{IsOutlineAt, IsOutlineBehind}
use Rattle.fdp_book.proofs.Held.Ended.{passes-same}
use Rattle.fdp_book.proofs.Held.Next.{held-next}
use Rattle.fdp_book.proofs.Held.Started.{copies-same}
use Rattle.fdp_book.proofs.Kept.{IsAlike, flights-alike, map-alike}
use Rattle.fdp_book.proofs.Leading.{leads-same}
use Rattle.fdp_book.proofs.Outlining.{generation-said}
use Rattle.fdp_book.proofs.Placing.Fresh.{IsFreshPage}
use Rattle.fdp_readings.specs.fdp_locations.Located.{next_in}
use Rattle.fdp_readings.specs.fdp_locations.Written.{Written, written_by}
use Rattle.fdp_readings.proofs.fdp_locations.Relocated.{led-shut}
use Rattle.fdp_readings.proofs.fdp_locations.Units.{changed-next, shuts-alike, units-referring}
use Rattle.fdp_owners.specs.OwnerTable.{OwnerTable, owner_at}
use Rattle.fdp_readings.specs.fdp_pages.PageTables.{PageTables, passes_at}
use Rattle.fdp_readings.specs.fdp_pages.Steps.{ShutsUnit}
use Rattle.fdp_rules.specs.Change.{after, changed_by}
use Rattle.fdp_rules.specs.Effect.{no_reference, with_reference}
use Rattle.fdp_rules.specs.History.{Found, point_of}
use Rattle.fdp_rules.specs.Next.{next}
use Rattle.fdp_rules.specs.PlainState.{PlainState}
use Rattle.fdp_rules.specs.Point.{Point}
use Rattle.fdp_rules.specs.Room.{handles_in_force}
use Rattle.fdp_rules.specs.Step.{Follows}
use Rattle.fdp_snapshot.specs.declared.state.Summary.{Summary}
use Rattle.fdp_readings.proofs.fdp_trails.Grouping.{all-renamed}

abbrev pub shut_entry : ℕ → ℕ → Entry
shut_entry rg ruh = entries.Shut (record { rg = rg; ruh = ruh })

-- what a state keeps when a handle is shut
record IsShut (c : DriveConfig) (s n : PlainState) (rg ruh : ℕ) : Type 0 where
  alike : IsAlike s n
  blocks : n.blocks ≡ s.blocks
  going : n.going ≡ s.going
  is_lost : n.is_lost ≡ s.is_lost
  is_worn : n.is_worn ≡ s.is_worn
  references : n.references ≡ with_reference s.references rg ruh (no_reference c)

shut-is : (c : DriveConfig) (p : Point) (rg ruh : ℕ) → IsShut c p.state (next c p (shut_entry rg ruh)).state rg ruh
unfolding next after changed_by
shut-is c p rg ruh = record {
  alike = record { enabled = refl; index = refl; generation = refl; namespaces = refl };
  blocks = refl;
  going = refl;
  is_lost = refl;
  is_worn = refl;
  references = refl;
}

pub shut-follows : (told : Bool) (c : DriveConfig) (p : Point) (rg ruh : ℕ) → rg < c.groups → ruh < handles_in_force c p.state → Follows told c p (shut_entry rg ruh)
unfolding Follows
shut-follows told c p rg ruh group handle = record { group = group; handle = handle }

-- the next page of each unit is that of before, or one later
shut-next : (t now : PageTables) (rg ruh : ℕ) (spot : Spot) → ShutsUnit t now rg ruh spot → (unit : ℕ) → next_in t.units unit ≤ next_in now.units unit
shut-next t now rg ruh spot h unit =
    let is : next_in now.units unit ≡ with_at (next_in t.units) spot.unit (next_in t.units spot.unit + 1) unit = changed-next t.units now.units spot.unit _ h.unit unit in
    ⊎_elim
    (λ (e : unit ≡ spot.unit).
    let here : with_at (next_in t.units) spot.unit (next_in t.units spot.unit + 1) unit ≡ next_in t.units spot.unit + 1 = ap (λ (b : Bool). if b then next_in t.units spot.unit + 1 else next_in t.units unit) (eq-eqb unit spot.unit e) in
    let same : next_in t.units unit ≡ next_in t.units spot.unit = ap (next_in t.units) e in
    omega (arith, is, here, same))
    (λ (ne : unit ≢ spot.unit).
    let there : with_at (next_in t.units) spot.unit (next_in t.units spot.unit + 1) unit ≡ next_in t.units unit = ap (λ (b : Bool). if b then next_in t.units spot.unit + 1 else next_in t.units unit) (ne_eqb unit spot.unit ne) in
    omega (arith, is, there))
    (cases_eq unit spot.unit)

pub held-shut : (c : DriveConfig) (found : Found) (first : Spot → Option Written) (es : List Entry) (t now : Tables) (rg ruh : ℕ) (spot : Spot) →
    IsHeld c found first es t → rg < c.groups → ruh < handles_in_force c (point_of c found es).state → IsFreshPage t.pages rg spot → ShutsUnit t.pages now.pages rg ruh spot → now ≡ record t { outline = now.outline; pages = now.pages } → IsOutlineBehind c found es (shut_entry rg ruh) now.outline →
    IsHeld c found first (es ++ shut_entry rg ruh ∷ []) now
held-shut c found first es t now rg ruh spot h group handle fresh shuts rest outline =
    let e : Entry = shut_entry rg ruh in
    let p : Point = point_of c found es in
    let q : Point = next c p e in
    let is : IsShut c p.state q.state rg ruh = shut-is c p rg ruh in
    let pages = h.pages_are in
    let follows : Follows true c p e = shut-follows true c p rg ruh group handle in
    subst (λ (x : Tables). IsHeld c found first (es ++ e ∷ []) x) (sym rest)
    (held-next true c found first es e t (record t { outline = now.outline; pages = now.pages }) h follows
    (record {
      map_is = map-alike c p.state q.state t.map is.alike is.blocks h.map_is;
      flights_are = flights-alike c p.state q.state t.flights.items is.alike is.going h.flights_are;
      units_are = units-referring c p.state q.state t.pages now.pages rg ruh (no_reference c) is.alike.enabled is.alike.index is.is_lost is.is_worn is.references (shuts.handles.references c h.units_are.unit_pages) shuts.handles.rest
          (shuts-alike t.pages now.pages rg ruh spot fresh.kept shuts) h.units_are;
    })
    outline
    (record {
      at = pages.at;
      led = led-shut true c p rg ruh (written_by c found first es) pages.at t.pages now.pages h.orderly follows
          (record { owners = ap (λ (o : OwnerTable). owner_at o) shuts.owners; next = shut-next t.pages now.pages rg ruh spot shuts; fewer = copies-same t.pages now.pages shuts.passes })
          (all-renamed c p e pages.at c.groups (passes_at t.pages) (passes_at now.pages) refl (λ k low. inl (passes-same t.pages now.pages shuts.passes k)) (λ k low ends. absurd cc) pages.led.passes)
          pages.led;
      leads = leads-same p.state q.state t.map t.flights.items pages.at is.alike.namespaces pages.leads;
    }))

-- the generation stays
pub generation-shut : (c : DriveConfig) (found : Found) (es : List Entry) (rg ruh : ℕ) (old new : Summary) → IsOutlineAt c (point_of c found es) old → IsOutlineBehind c found es (shut_entry rg ruh) new → new.generation ≡ old.generation
generation-shut c found es rg ruh old new before behind =
    let p : Point = point_of c found es in
    sym (generation-said c (next c p (shut_entry rg ruh)) new behind.at) ∙ (shut-is c p rg ruh).alike.generation ∙ generation-said c p old before
