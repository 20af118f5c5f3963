-- What the creation of a namespace leaves of the tables.
use Rattle.std.proofs.Common.{◌≡◌, ◌≢◌, ⊎_elim, ℕ, ◌+◌, ◌≤◌, Bool, true, false, List, [], ◌∷◌, ◌++◌, Option, Some, None, refl, sym, ◌∙◌, ap, subst, arith, ne_eqb}
use Rattle.std.specs.Prelude.{◌==◌, ◌&&◌, if◌then◌else◌, length, nat_lt, option_and_then, option_map, unwrap_or}
use Rattle.std.specs.Option.{option_map_or}
use Rattle.std.proofs.lemmas.Bool.{cases_eq}
use Rattle.fdp_base.specs.declared.command.Command.TheVariants as commands
use Rattle.fdp_base.specs.declared.command.Create.{Create}
use Rattle.fdp_base.specs.declared.config.DriveConfig.{DriveConfig}
use Rattle.fdp_base.specs.declared.entry.Entry.{Entry}
use Rattle.fdp_base.specs.declared.entry.Spot.{Spot}
use Rattle.fdp_base.specs.CommandKinds.{nsid_of}
use Rattle.fdp_base.specs.Numbers.{with_at}
use Rattle.fdp_book.specs.declared.flight.Flight.{Flight}
use Rattle.fdp_book.specs.declared.tables.Tables.{Tables}
use Rattle.fdp_book.specs.Held.{IsHeld, IsMapOf, flight_in, going_of, lead_in, page_in}
use Rattle.fdp_book.specs.Outlined.{IsOutlineBehind}
use Rattle.fdp_book.specs.Namespaces.{CanCreate, Creates}
use Rattle.fdp_book.proofs.Held.Applied.{applied_entry, applied-going, held-applied}
use Rattle.fdp_book.proofs.Held.Spaced.{Unseen, at-read, flights-put, page-gone, page-other, there-put}
use Rattle.fdp_book.proofs.Histories.Accepted.{created-few}
use Rattle.fdp_book.proofs.Outlining.{namespaces-said}
use Rattle.fdp_history.proofs.Checks.{IsAcceptedCreate, accepted-create}
use Rattle.fdp_history.proofs.Spaces.{free-is}
use Rattle.fdp_readings.specs.fdp_locations.Located.{LeadsTo}
use Rattle.fdp_readings.specs.fdp_locations.Written.{Written}
use Rattle.fdp_readings.proofs.fdp_locations.Units.{HasSameUnits, alike-self, units-same}
use Rattle.fdp_map.specs.declared.mapped.Mapped.{Mapped}
use Rattle.fdp_map.specs.MapTable.{mapped_at, size_in}
use Rattle.fdp_pointers.specs.Facts.{Page}
use Rattle.fdp_pointers.specs.Pointers.{Behind, Pointer.of_block, Pointer.of_flight}
use Rattle.fdp_rules.specs.Change.{after, changed_by}
use Rattle.fdp_rules.specs.Effect.{chosen_handles, effect_of, lowest_free}
use Rattle.fdp_rules.specs.History.{Found, point_of}
use Rattle.fdp_rules.specs.Next.{next}
use Rattle.fdp_rules.specs.PlainState.{Block, Namespace, PlainState}
use Rattle.fdp_rules.specs.Point.{Point}
use Rattle.fdp_rules.specs.Refusal.{refusal_of}
use Rattle.fdp_rules.specs.Sites.{is_there}
use Rattle.fdp_rules.specs.Step.{Follows}
use Rattle.fdp_snapshot.specs.declared.state.Summary.{Summary}

-- ---- before

-- a namespace that is not refused may be created
pub can-create : (c : DriveConfig) (found : Found) (first : Spot → Option Written) (es : List Entry) (t : Tables) (x : Create) → IsHeld c found first es t → refusal_of c (point_of c found es) (commands.Create x) ≡ None → CanCreate t x
can-create c found first es t x h accepted =
    let p : Point = point_of c found es in
    let s : PlainState = p.state in
    let may : IsAcceptedCreate c s x.size x.list = accepted-create c p x.size x.given x.list accepted in
    let free = free-is s may.free in
    let none : option_map_or (λ (y : Namespace). y.size) (s.namespaces free.0) 0 ≡ 0 = ap (λ (o : Option Namespace). option_map_or (λ (y : Namespace). y.size) o 0) free.2 in
    record {
      state = s;
      agrees = namespaces-said c p t.outline h.outline_is;
      nsid = free.0;
      free = free.1;
      absent = sym (h.map_is.sizes free.0) ∙ none;
      size = created-few c s h.config x may;
    }

-- ---- the state

-- a created namespace, with this birth; an empty list counts as none
abbrev born : Create → ℕ → Namespace
born x birth = record { size = x.size; handles = chosen_handles x.list; given = x.given && nat_lt 0 (length x.list); birth = birth }

-- what a state keeps in which a namespace is created
record IsCreated (s n : PlainState) (nsid : ℕ) (x : Create) : Type 0 where
  namespaces : n.namespaces ≡ with_at s.namespaces nsid (Some (born x (s.position + 1)))
  blocks : n.blocks ≡ s.blocks
  units : HasSameUnits s n

created-is : (c : DriveConfig) (p : Point) (queue number : ℕ) (x : Create) (moment : ℕ) → IsCreated p.state (next c p (applied_entry queue number (commands.Create x) p.state moment)).state (unwrap_or (lowest_free p.state) 0) x
unfolding next after changed_by effect_of
created-is c p queue number x moment = record {
  namespaces = refl;
  blocks = refl;
  units = record { enabled = refl; index = refl; references = refl; is_lost = refl; is_worn = refl };
}

-- ---- the tables

few-put : (sizes : ℕ → ℕ) (nsid size k : ℕ) → size ≤ 262144 → sizes k ≤ 262144 → with_at sizes nsid size k ≤ 262144
few-put sizes nsid size k one few = by (k == nsid)
  where
    by : (b : Bool) → (if b then size else sizes k) ≤ 262144
    by true = one
    by false = few

map-created : (c : DriveConfig) (s n : PlainState) (t now : Tables) (x : Create) → x.size ≤ 262144 → (creates : Creates t now x) → IsCreated s n creates.nsid x → IsMapOf c s t.map → IsMapOf c n now.map
map-created c s n t now x few creates is h = record {
  geometry = creates.geometry ∙ h.geometry;
  sizes = λ k.
      ap (λ (f : ℕ → Option Namespace). option_map_or (λ (y : Namespace). y.size) (f k) 0) is.namespaces
      ∙ at-read (λ (o : Option Namespace). option_map_or (λ (y : Namespace). y.size) o 0) s.namespaces creates.nsid (Some (born x (s.position + 1))) k
      ∙ ap (λ (f : ℕ → ℕ). with_at f creates.nsid x.size k) (λ d i. h.sizes i d)
      ∙ sym (ap (λ (f : ℕ → ℕ). f k) creates.sizes);
  most = λ k. subst (λ (f : ℕ → ℕ). f k ≤ 262144) (sym creates.sizes) (few-put (size_in t.map) creates.nsid x.size k few (h.most k));
  groups = λ k lba.
      ap (λ (f : ℕ → ℕ → Option Block). option_map (λ (b : Block). b.rg) (f k lba)) is.blocks
      ∙ h.groups k lba
      ∙ sym (ap (λ (f : ℕ → ℕ → Option Mapped). option_map (λ (m : Mapped). m.rg) (f k lba)) creates.blocks);
}

-- a write that is going was started before the namespace was created
older : (s : PlainState) (x : Create) (f : Flight) → f.birth ≤ s.position → option_map_or (λ (y : Namespace). y.birth == f.birth) (Some (born x (s.position + 1))) false ≡ false
older s x f before = ne_eqb (s.position + 1) f.birth (λ e. omega (arith, e, before))

leads-created : (s n : PlainState) (t now : Tables) (flights : List (Option Flight)) (nsid : ℕ) (o : Option Namespace) (at : Behind Page) → n.namespaces ≡ with_at s.namespaces nsid o → s.namespaces nsid ≡ None → Unseen o flights nsid → mapped_at now.map ≡ mapped_at t.map → LeadsTo (lead_in s t.map flights) at → LeadsTo (lead_in n now.map flights) at
leads-created s n t now flights nsid o at is absent unseen blocks h (of_block k lba) = h (of_block k lba) ∙ sym (ap (λ (f : ℕ → ℕ → Option Mapped). option_map (λ (m : Mapped). m.spot) (f k lba)) blocks)
leads-created s n t now flights nsid o at is absent unseen blocks h (of_flight q i) = h (of_flight q i) ∙ by (flight_in flights q) refl
  where
    by : (f : Option Flight) → flight_in flights q ≡ f → option_and_then (page_in s i) f ≡ option_and_then (page_in n i) f
    by None e = refl
    by (Some f) e =
        let put = there-put s n nsid o f is (unseen q f e) in
        ⊎_elim
        (λ (own : nsid_of f.room.command ≡ nsid).
        let gone : is_there s (going_of f) ≡ false = ap (λ (x : Option Namespace). option_map_or (λ (y : Namespace). y.birth == f.birth) x false) (ap s.namespaces own ∙ absent) in
        page-gone s i f gone ∙ sym (page-gone n i f (put.0 own)))
        (λ (ne : nsid_of f.room.command ≢ nsid). sym (page-other s n nsid i o f is ne))
        (cases_eq (nsid_of f.room.command) nsid)

pub held-created : (c : DriveConfig) (found : Found) (first : Spot → Option Written) (es : List Entry) (t now : Tables) (queue number : ℕ) (x : Create) (moment : ℕ) (outline : Summary) →
    IsHeld c found first es t → Follows true c (point_of c found es) (applied_entry queue number (commands.Create x) (point_of c found es).state moment) → refusal_of c (point_of c found es) (commands.Create x) ≡ None →
    Creates t now x → IsOutlineBehind c found es (applied_entry queue number (commands.Create x) (point_of c found es).state moment) outline →
    IsHeld c found first (es ++ applied_entry queue number (commands.Create x) (point_of c found es).state moment ∷ []) (record now { outline = outline })
held-created c found first es t now queue number x moment outline h follows accepted creates behind =
    let p : Point = point_of c found es in
    let e : Entry = applied_entry queue number (commands.Create x) p.state moment in
    let q : Point = next c p e in
    let at : Behind Page = h.pages_are.at in
    let mid : Tables = record t { outline = outline; map = now.map } in
    let may : IsAcceptedCreate c p.state x.size x.list = accepted-create c p x.size x.given x.list accepted in
    let free : lowest_free p.state ≡ Some creates.nsid = creates.free p.state (namespaces-said c p t.outline h.outline_is) in
    let is : IsCreated p.state q.state creates.nsid x = subst (λ (o : Option ℕ). IsCreated p.state q.state (unwrap_or o 0) x) free (created-is c p queue number x moment) in
    let found_free = free-is p.state may.free in
    let same : Some found_free.0 ≡ Some creates.nsid = sym found_free.1 ∙ free in
    let nsid : found_free.0 ≡ creates.nsid = cc in
    let absent : p.state.namespaces creates.nsid ≡ None = ap p.state.namespaces (sym nsid) ∙ found_free.2 in
    let unseen : Unseen (Some (born x (p.state.position + 1))) t.flights.items creates.nsid = λ k f there own. older p.state x f (h.orderly.state.writes k (going_of f) (h.flights_are.going k ∙ ap (option_map going_of) there)).birth in
    subst (λ (y : Tables). IsHeld c found first (es ++ e ∷ []) (record y { outline = outline })) (sym creates.rest)
    (held-applied c found first es t mid queue number (commands.Create x) moment h follows refl
    (record {
      map_is = map-created c p.state q.state t now x (created-few c p.state h.config x may) creates is h.map_is;
      flights_are = flights-put c p.state q.state t.flights.items creates.nsid (Some (born x (p.state.position + 1))) is.namespaces (applied-going c p queue number (commands.Create x) moment refl) unseen h.flights_are;
      units_are = units-same c p.state q.state t.pages t.pages is.units (alike-self t.pages.units) refl h.units_are;
    })
    behind
    (record {
      owned = h.pages_are.led.owned;
      up = λ unit. omega arith;
      passes = λ rg. refl;
      leads = leads-created p.state q.state t now t.flights.items creates.nsid (Some (born x (p.state.position + 1))) at is.namespaces absent unseen creates.blocks h.pages_are.leads;
    }))
