-- What the deletion of a namespace leaves of the tables.
use Rattle.std.proofs.Common.{◌≡◌, ◌≢◌, ⊎_elim, ℕ, ◌≤◌, Bool, true, false, List, [], ◌∷◌, ◌++◌, Option, Some, None, refl, sym, ◌∙◌, ap, subst, arith, eq-eqb, ne_eqb}
use Rattle.std.specs.Prelude.{◌==◌, ◌&&◌, if◌then◌else◌, not, option_and_then, option_map}
use Rattle.std.specs.Option.{option_map_or}
use Rattle.std.proofs.lemmas.Bool.{cases_eq}
use Rattle.fdp_base.specs.declared.command.Command.TheVariants as commands
use Rattle.fdp_base.specs.declared.command.Delete.{Delete}
use Rattle.fdp_base.specs.declared.config.DriveConfig.{DriveConfig}
use Rattle.fdp_base.specs.declared.entry.Entry.{Entry}
use Rattle.fdp_base.specs.declared.entry.Spot.{Spot}
use Rattle.fdp_base.specs.CommandKinds.{nsid_of}
use Rattle.fdp_base.specs.Numbers.{with_at}
use Rattle.fdp_book.specs.declared.flight.Flight.{Flight}
use Rattle.fdp_book.specs.declared.tables.Tables.{Tables}
use Rattle.fdp_book.specs.Held.{IsHeld, IsMapOf, flight_in, going_of, lead_in, page_in}
use Rattle.fdp_book.specs.Outlined.{IsOutlineBehind}
use Rattle.fdp_book.specs.Namespaces.{AreFlown, ArePointed, Deletes, goes_to, is_away, is_to}
use Rattle.fdp_book.proofs.Clearing.{only-out}
use Rattle.fdp_book.proofs.Held.Applied.{applied_entry, applied-going, held-applied}
use Rattle.fdp_book.proofs.Held.Cleared.{told-mapped}
use Rattle.fdp_book.proofs.Held.Ended.{passes-same}
use Rattle.fdp_book.proofs.Held.Spaced.{at-read, flights-put, page-gone, page-other, there-put}
use Rattle.fdp_book.proofs.Leading.{flown-known, nsid-known}
use Rattle.fdp_book.proofs.Outlining.{namespaces-said}
use Rattle.fdp_readings.specs.fdp_locations.Located.{LeadsTo}
use Rattle.fdp_readings.specs.fdp_locations.Written.{Written}
use Rattle.fdp_readings.proofs.fdp_locations.Units.{HasSameUnits, owners-alike, owners-next, units-same}
use Rattle.fdp_map.specs.declared.mapped.Mapped.{Mapped}
use Rattle.fdp_map.specs.MapTable.{mapped_at, size_in}
use Rattle.fdp_owners.specs.Owned.{AreOwners}
use Rattle.fdp_owners.specs.OwnerTable.{owner_at}
use Rattle.fdp_pointers.specs.Facts.{Page}
use Rattle.fdp_pointers.specs.Pointers.{Behind, Pointer, Pointer.of_block, Pointer.of_flight, is_elsewhere, only, renamed}
use Rattle.fdp_rules.specs.Change.{after, changed_by}
use Rattle.fdp_rules.specs.Effect.{effect_of}
use Rattle.fdp_rules.specs.History.{Found, point_of}
use Rattle.fdp_rules.specs.Next.{next}
use Rattle.fdp_rules.specs.PlainState.{Block, Going, Namespace, PlainState}
use Rattle.fdp_rules.specs.Point.{Point}
use Rattle.fdp_rules.specs.Step.{Follows}
use Rattle.fdp_snapshot.specs.declared.state.Summary.{Summary}

-- ---- where the pointers lead before

told-flown : (c : DriveConfig) (found : Found) (first : Spot → Option Written) (es : List Entry) (t : Tables) → (h : IsHeld c found first es t) → AreFlown h.pages_are.at t.outline t.flights.items t.pages
told-flown c found first es t h = record {
  owned = h.pages_are.led.owned;
  flown = λ queue. flown-known (point_of c found es).state t.map t.outline t.flights.items h.pages_are.at queue (namespaces-said c (point_of c found es) t.outline h.outline_is) h.pages_are.leads;
}

pub are-pointed : (c : DriveConfig) (found : Found) (first : Spot → Option Written) (es : List Entry) (t : Tables) → IsHeld c found first es t → ArePointed t
are-pointed c found first es t h = record { at = h.pages_are.at; mapped = told-mapped c found first es t h; flown = told-flown c found first es t h }

-- ---- the state

-- what a state keeps of which a namespace is deleted
record IsDeleted (s n : PlainState) (nsid : ℕ) : Type 0 where
  namespaces : n.namespaces ≡ with_at s.namespaces nsid None
  blocks : n.blocks ≡ (λ k lba. if k == nsid && true then None else s.blocks k lba)
  units : HasSameUnits s n

deleted-is : (c : DriveConfig) (p : Point) (queue number : ℕ) (d : Delete) (moment : ℕ) → IsDeleted p.state (next c p (applied_entry queue number (commands.Delete d) p.state moment)).state d.nsid
unfolding next after changed_by effect_of
deleted-is c p queue number d moment = record {
  namespaces = refl;
  blocks = refl;
  units = record { enabled = refl; index = refl; references = refl; is_lost = refl; is_worn = refl };
}

-- ---- the tables

few-put : (sizes : ℕ → ℕ) (nsid k : ℕ) → sizes k ≤ 262144 → with_at sizes nsid 0 k ≤ 262144
few-put sizes nsid k few = by (k == nsid)
  where
    by : (b : Bool) → (if b then 0 else sizes k) ≤ 262144
    by true = omega arith
    by false = few

map-deleted : (c : DriveConfig) (s n : PlainState) (t now : Tables) (nsid : ℕ) → IsDeleted s n nsid → Deletes t now nsid → IsMapOf c s t.map → IsMapOf c n now.map
map-deleted c s n t now nsid is deletes h = record {
  geometry = deletes.geometry ∙ h.geometry;
  sizes = λ k.
      ap (λ (f : ℕ → Option Namespace). option_map_or (λ (x : Namespace). x.size) (f k) 0) is.namespaces
      ∙ at-read (λ (o : Option Namespace). option_map_or (λ (x : Namespace). x.size) o 0) s.namespaces nsid None k
      ∙ ap (λ (f : ℕ → ℕ). with_at f nsid 0 k) (λ d i. h.sizes i d)
      ∙ sym (ap (λ (f : ℕ → ℕ). f k) deletes.sizes);
  most = λ k. subst (λ (f : ℕ → ℕ). f k ≤ 262144) (sym deletes.sizes) (few-put (size_in t.map) nsid k (h.most k));
  groups = λ k lba.
      ap (λ (f : ℕ → ℕ → Option Block). option_map (λ (b : Block). b.rg) (f k lba)) is.blocks
      ∙ chosen k lba
      ∙ sym (ap (λ (f : ℕ → ℕ → Option Mapped). option_map (λ (m : Mapped). m.rg) (f k lba)) deletes.blocks);
}
  where
    chosen : (k lba : ℕ) → option_map (λ (x : Block). x.rg) (if k == nsid && true then None else s.blocks k lba) ≡ option_map (λ (m : Mapped). m.rg) (with_at (mapped_at t.map) nsid (λ l. None) k lba)
    chosen k lba =
        ⊎_elim
        (λ (e : k ≡ nsid). rw (eq-eqb k nsid e) refl)
        (λ (ne : k ≢ nsid). rw (ne_eqb k nsid ne) (h.groups k lba))
        (cases_eq k nsid)

-- ---- where the pointers lead

-- the write of a flight goes to the namespace
to-known : (s : PlainState) (flights : List (Option Flight)) (nsid q : ℕ) → s.going q ≡ option_map going_of (flight_in flights q) → is_to flights nsid q ≡ option_map_or (λ (g : Going). nsid_of g.command == nsid) (s.going q) false
to-known s flights nsid q going = by (flight_in flights q) ∙ sym (ap (λ (o : Option Going). option_map_or (λ (g : Going). nsid_of g.command == nsid) o false) going)
  where
    by : (o : Option Flight) → option_map_or (goes_to nsid) o false ≡ option_map_or (λ (g : Going). nsid_of g.command == nsid) (option_map going_of o) false
    by None = refl
    by (Some f) = ap (λ (k : ℕ). k == nsid) (nsid-known f)

away-known : (s : PlainState) (flights : List (Option Flight)) (nsid : ℕ) → ((q : ℕ) → s.going q ≡ option_map going_of (flight_in flights q)) → (p : Pointer) → is_away flights nsid p ≡ is_elsewhere s nsid p
away-known s flights nsid going (of_block k lba) = refl
away-known s flights nsid going (of_flight q i) = ap not (to-known s flights nsid q (going q))

leads-deleted : (s n : PlainState) (t now : Tables) (flights : List (Option Flight)) (nsid : ℕ) (at : Behind Page) → IsDeleted s n nsid → Deletes t now nsid → ((q : ℕ) → s.going q ≡ option_map going_of (flight_in flights q)) → LeadsTo (lead_in s t.map flights) at → LeadsTo (lead_in n now.map flights) (renamed (only (is_elsewhere s nsid)) at)
leads-deleted s n t now flights nsid at is deletes going h (of_block k lba) =
    ap (option_map (λ (y : Page). y.spot)) (only-out (k == nsid) (of_block k lba) at)
    ∙ ⊎_elim
    (λ (e : k ≡ nsid). rw (eq-eqb k nsid e) refl)
    (λ (ne : k ≢ nsid). rw (ne_eqb k nsid ne) (h (of_block k lba)))
    (cases_eq k nsid)
    ∙ sym (ap (λ (f : ℕ → ℕ → Option Mapped). option_map (λ (m : Mapped). m.spot) (f k lba)) deletes.blocks)
leads-deleted s n t now flights nsid at is deletes going h (of_flight q i) =
    ap (option_map (λ (y : Page). y.spot)) (only-out (option_map_or (λ (g : Going). nsid_of g.command == nsid) (s.going q) false) (of_flight q i) at)
    ∙ ap (λ (o : Option Going). option_map (λ (y : Page). y.spot) (if option_map_or (λ (g : Going). nsid_of g.command == nsid) o false then None else at (of_flight q i))) (going q)
    ∙ by (flight_in flights q) (h (of_flight q i))
  where
    by : (o : Option Flight) → option_map (λ (y : Page). y.spot) (at (of_flight q i)) ≡ option_and_then (page_in s i) o →
        option_map (λ (y : Page). y.spot) (if option_map_or (λ (g : Going). nsid_of g.command == nsid) (option_map going_of o) false then None else at (of_flight q i)) ≡ option_and_then (page_in n i) o
    by None led = led
    by (Some f) led =
        let put = there-put s n nsid None f is.namespaces (λ own. refl) in
        ⊎_elim
        (λ (own : nsid_of f.room.command ≡ nsid).
        ap (λ (b : Bool). option_map (λ (y : Page). y.spot) (if b then None else at (of_flight q i))) (eq-eqb (nsid_of f.room.command) nsid own) ∙ sym (page-gone n i f (put.0 own)))
        (λ (ne : nsid_of f.room.command ≢ nsid).
        ap (λ (b : Bool). option_map (λ (y : Page). y.spot) (if b then None else at (of_flight q i))) (ne_eqb (nsid_of f.room.command) nsid ne) ∙ led ∙ sym (page-other s n nsid i None f is.namespaces ne))
        (cases_eq (nsid_of f.room.command) nsid)

pub held-deleted : (c : DriveConfig) (found : Found) (first : Spot → Option Written) (es : List Entry) (t now : Tables) (queue number : ℕ) (d : Delete) (moment : ℕ) (outline : Summary) →
    IsHeld c found first es t → Follows true c (point_of c found es) (applied_entry queue number (commands.Delete d) (point_of c found es).state moment) → Deletes t now d.nsid →
    IsOutlineBehind c found es (applied_entry queue number (commands.Delete d) (point_of c found es).state moment) outline →
    IsHeld c found first (es ++ applied_entry queue number (commands.Delete d) (point_of c found es).state moment ∷ []) (record now { outline = outline })
held-deleted c found first es t now queue number d moment outline h follows deletes behind =
    let p : Point = point_of c found es in
    let e : Entry = applied_entry queue number (commands.Delete d) p.state moment in
    let q : Point = next c p e in
    let at : Behind Page = h.pages_are.at in
    let mid : Tables = record t { outline = outline; map = now.map; pages = now.pages } in
    let is : IsDeleted p.state q.state d.nsid = deleted-is c p queue number d moment in
    subst (λ (x : Tables). IsHeld c found first (es ++ e ∷ []) (record x { outline = outline })) (sym deletes.rest)
    (held-applied c found first es t mid queue number (commands.Delete d) moment h follows refl
    (record {
      map_is = map-deleted c p.state q.state t now d.nsid is deletes h.map_is;
      flights_are = flights-put c p.state q.state t.flights.items d.nsid None is.namespaces (applied-going c p queue number (commands.Delete d) moment refl) (λ k f there own. refl) h.flights_are;
      units_are = units-same c p.state q.state t.pages now.pages is.units (owners-alike t.pages now.pages deletes.pages.changes) deletes.pages.changes.handles h.units_are;
    })
    behind
    (record {
      owned = subst (λ (test : Pointer → Bool). AreOwners (owner_at now.pages.owners) (renamed (only test) at)) (λ k x. away-known p.state t.flights.items d.nsid h.flights_are.going x k) (deletes.owners at (told-mapped c found first es t h) (told-flown c found first es t h));
      up = λ unit. omega (arith, owners-next t.pages now.pages deletes.pages.changes unit);
      passes = passes-same t.pages now.pages deletes.pages.changes.passes;
      leads = leads-deleted p.state q.state t now t.flights.items d.nsid at is deletes h.flights_are.going h.pages_are.leads;
    }))
