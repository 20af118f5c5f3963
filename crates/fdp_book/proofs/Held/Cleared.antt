-- What a zeroing and a deallocation leave of the tables.
use Rattle.std.proofs.Common.{◌≡◌, ℕ, Bool, true, false, List, [], ◌∷◌, ◌++◌, Option, None, refl, sym, ◌∙◌, ap, subst, arith}
use Rattle.std.specs.Prelude.{◌==◌, ◌&&◌, IsFalse, IsTrue, if◌then◌else◌, option_map}
use Rattle.std.specs.Option.{option_map_or}
use Rattle.fdp_base.specs.declared.command.Command.{Command}
use Rattle.fdp_base.specs.declared.command.Command.TheVariants as commands
use Rattle.fdp_base.specs.declared.command.Dealloc.{Dealloc}
use Rattle.fdp_base.specs.declared.command.Zero.{Zero}
use Rattle.fdp_base.specs.declared.config.DriveConfig.{DriveConfig}
use Rattle.fdp_base.specs.declared.entry.Entry.{Entry}
use Rattle.fdp_base.specs.declared.entry.Spot.{Spot}
use Rattle.fdp_base.specs.CommandKinds.{is_write}
use Rattle.fdp_base.specs.Numbers.{is_among}
use Rattle.fdp_book.specs.declared.flight.Flight.{Flight}
use Rattle.fdp_book.specs.declared.tables.Tables.{Tables}
use Rattle.fdp_book.specs.Clearing.{AreMapped, Clears, HasPointers}
use Rattle.fdp_book.specs.Held.{IsHeld, IsMapOf, flight_in, lead_in}
use Rattle.fdp_book.specs.Outlined.{IsOutlineBehind}
use Rattle.fdp_book.proofs.Clearing.{mapped-still}
use Rattle.fdp_book.proofs.Held.Applied.{applied_entry, applied-going, held-applied}
use Rattle.fdp_book.proofs.Held.Ended.{passes-same}
use Rattle.fdp_book.proofs.Kept.{IsAlike, flights-alike}
use Rattle.fdp_book.proofs.Leading.{pages-same}
use Rattle.fdp_readings.specs.fdp_locations.Located.{LeadsTo}
use Rattle.fdp_readings.specs.fdp_locations.Written.{Written}
use Rattle.fdp_readings.proofs.fdp_locations.Units.{HasSameUnits, owners-alike, owners-next, units-same}
use Rattle.fdp_map.specs.declared.mapped.Mapped.{Mapped}
use Rattle.fdp_map.specs.MapTable.{MapTable, mapped_at, size_in}
use Rattle.fdp_owners.specs.Owned.{AreOwners}
use Rattle.fdp_owners.specs.OwnerTable.{owner_at}
use Rattle.fdp_readings.specs.fdp_pages.PageTables.{PageTables}
use Rattle.fdp_pointers.specs.Contents.{ended_by}
use Rattle.fdp_pointers.specs.Facts.{Page}
use Rattle.fdp_pointers.specs.Pointers.{Behind, Pointer, Pointer.of_block, Pointer.of_flight, is_outside, only, renamed}
use Rattle.fdp_rules.specs.Change.{after, changed_by}
use Rattle.fdp_rules.specs.Effect.{effect_of, is_in_ranges}
use Rattle.fdp_rules.specs.History.{Found, point_of}
use Rattle.fdp_rules.specs.Next.{next}
use Rattle.fdp_rules.specs.PlainState.{Block, Namespace, PlainState}
use Rattle.fdp_rules.specs.Point.{Point}
use Rattle.fdp_rules.specs.Step.{Follows}
use Rattle.fdp_snapshot.specs.declared.state.Summary.{Summary}

-- ---- where the pointers lead before

-- the pointers of blocks lead where the map says
pub told-mapped : (c : DriveConfig) (found : Found) (first : Spot → Option Written) (es : List Entry) (t : Tables) → (h : IsHeld c found first es t) → AreMapped h.pages_are.at t.map t.pages
told-mapped c found first es t h = record { owned = h.pages_are.led.owned; mapped = λ nsid lba. h.pages_are.leads (of_block nsid lba) }

pub has-pointers : (c : DriveConfig) (found : Found) (first : Spot → Option Written) (es : List Entry) (t : Tables) → IsHeld c found first es t → HasPointers t.map t.pages
has-pointers c found first es t h = record { at = h.pages_are.at; are = told-mapped c found first es t h }

-- ---- blocks whose addresses pass a test

-- what a state keeps of which blocks of a namespace become absent
pub record IsCleared (s n : PlainState) (nsid : ℕ) (test : ℕ → Bool) : Type 0 where
  pub alike : IsAlike s n
  pub units : HasSameUnits s n
  pub blocks : n.blocks ≡ (λ k lba. if k == nsid && test lba then None else s.blocks k lba)

map-cleared : (c : DriveConfig) (s n : PlainState) (nsid : ℕ) (test : ℕ → Bool) (map new : MapTable) (t now : PageTables) → IsCleared s n nsid test → Clears nsid test map new t now → IsMapOf c s map → IsMapOf c n new
map-cleared c s n nsid test map new t now is clears h = record {
  geometry = clears.geometry ∙ h.geometry;
  sizes = λ k. ap (λ (f : ℕ → Option Namespace). option_map_or (λ (x : Namespace). x.size) (f k) 0) is.alike.namespaces ∙ h.sizes k ∙ sym (ap (λ (f : ℕ → ℕ). f k) clears.sizes);
  most = λ k. let size : size_in new k ≡ size_in map k = ap (λ (f : ℕ → ℕ). f k) clears.sizes in omega (arith, size, h.most k);
  groups = λ k lba.
      ap (λ (f : ℕ → ℕ → Option Block). option_map (λ (b : Block). b.rg) (f k lba)) is.blocks
      ∙ chosen (k == nsid && test lba) k lba
      ∙ sym (ap (λ (f : ℕ → ℕ → Option Mapped). option_map (λ (m : Mapped). m.rg) (f k lba)) clears.blocks);
}
  where
    chosen : (b : Bool) (k lba : ℕ) → option_map (λ (x : Block). x.rg) (if b then None else s.blocks k lba) ≡ option_map (λ (m : Mapped). m.rg) (if b then None else mapped_at map k lba)
    chosen true k lba = refl
    chosen false k lba = h.groups k lba

leads-cleared : (s n : PlainState) (nsid : ℕ) (test : ℕ → Bool) (map new : MapTable) (flights : List (Option Flight)) (t now : PageTables) (at : Behind Page) → n.namespaces ≡ s.namespaces → AreMapped at map t → Clears nsid test map new t now →
    LeadsTo (lead_in s map flights) at → LeadsTo (lead_in n new flights) (renamed (only (is_outside nsid test)) at)
leads-cleared s n nsid test map new flights t now at same are clears h (of_block k lba) = (mapped-still nsid test map new t now at clears are).mapped k lba
leads-cleared s n nsid test map new flights t now at same are clears h (of_flight q i) = h (of_flight q i) ∙ sym (pages-same s n i (flight_in flights q) same)

-- the tables after such a command
pub record ClearsTables (t now : Tables) (nsid : ℕ) (test : ℕ → Bool) : Type 0 where
  pub clears : Clears nsid test t.map now.map t.pages now.pages
  pub rest : now ≡ record t { map = now.map; pages = now.pages }

held-cleared : (c : DriveConfig) (found : Found) (first : Spot → Option Written) (es : List Entry) (t now : Tables) (queue number : ℕ) (command : Command) (moment nsid : ℕ) (test : ℕ → Bool) (outline : Summary) →
    IsHeld c found first es t → Follows true c (point_of c found es) (applied_entry queue number command (point_of c found es).state moment) → IsFalse (is_write command) →
    IsCleared (point_of c found es).state (next c (point_of c found es) (applied_entry queue number command (point_of c found es).state moment)).state nsid test →
    ended_by (point_of c found es).state queue true command ≡ only (is_outside nsid test) → ClearsTables t now nsid test → IsOutlineBehind c found es (applied_entry queue number command (point_of c found es).state moment) outline →
    IsHeld c found first (es ++ applied_entry queue number command (point_of c found es).state moment ∷ []) (record now { outline = outline })
held-cleared c found first es t now queue number command moment nsid test outline h follows other is ended cleared behind =
    let p : Point = point_of c found es in
    let e : Entry = applied_entry queue number command p.state moment in
    let q : Point = next c p e in
    let clears : Clears nsid test t.map now.map t.pages now.pages = cleared.clears in
    let at : Behind Page = h.pages_are.at in
    let mid : Tables = record t { outline = outline; map = now.map; pages = now.pages } in
    subst (λ (x : Tables). IsHeld c found first (es ++ e ∷ []) (record x { outline = outline })) (sym cleared.rest)
    (held-applied c found first es t mid queue number command moment h follows other
    (record {
      map_is = map-cleared c p.state q.state nsid test t.map now.map t.pages now.pages is clears h.map_is;
      flights_are = flights-alike c p.state q.state t.flights.items is.alike (applied-going c p queue number command moment other) h.flights_are;
      units_are = units-same c p.state q.state t.pages now.pages is.units (owners-alike t.pages now.pages clears.pages.changes) clears.pages.changes.handles h.units_are;
    })
    behind
    (record {
      owned = subst (λ (r : Pointer → Option Pointer). AreOwners (owner_at now.pages.owners) (renamed r at)) (sym ended) (clears.owners at (told-mapped c found first es t h));
      up = λ unit. omega (arith, owners-next t.pages now.pages clears.pages.changes unit);
      passes = passes-same t.pages now.pages clears.pages.changes.passes;
      leads = subst (λ (r : Pointer → Option Pointer). LeadsTo (lead_in q.state now.map t.flights.items) (renamed r at)) (sym ended)
          (leads-cleared p.state q.state nsid test t.map now.map t.flights.items t.pages now.pages at is.alike.namespaces (told-mapped c found first es t h) clears h.pages_are.leads);
    }))

-- ---- a zeroing

zero-is : (c : DriveConfig) (p : Point) (queue number : ℕ) (z : Zero) (moment : ℕ) → IsCleared p.state (next c p (applied_entry queue number (commands.Zero z) p.state moment)).state z.nsid (is_among z.slba z.count)
unfolding next after changed_by effect_of
zero-is c p queue number z moment = record {
  alike = record { enabled = refl; index = refl; generation = refl; namespaces = refl };
  units = record { enabled = refl; index = refl; references = refl; is_lost = refl; is_worn = refl };
  blocks = refl;
}

pub held-zeroed : (c : DriveConfig) (found : Found) (first : Spot → Option Written) (es : List Entry) (t now : Tables) (queue number : ℕ) (z : Zero) (moment : ℕ) (outline : Summary) →
    IsHeld c found first es t → Follows true c (point_of c found es) (applied_entry queue number (commands.Zero z) (point_of c found es).state moment) → ClearsTables t now z.nsid (is_among z.slba z.count) → IsOutlineBehind c found es (applied_entry queue number (commands.Zero z) (point_of c found es).state moment) outline →
    IsHeld c found first (es ++ applied_entry queue number (commands.Zero z) (point_of c found es).state moment ∷ []) (record now { outline = outline })
held-zeroed c found first es t now queue number z moment outline h follows clears behind =
    held-cleared c found first es t now queue number (commands.Zero z) moment z.nsid (is_among z.slba z.count) outline h follows refl (zero-is c (point_of c found es) queue number z moment) refl clears behind

-- ---- a deallocation

dealloc-is : (c : DriveConfig) (p : Point) (queue number : ℕ) (d : Dealloc) (moment : ℕ) → IsCleared p.state (next c p (applied_entry queue number (commands.Dealloc d) p.state moment)).state d.nsid (λ lba. d.deallocate && is_in_ranges d.ranges lba)
unfolding next after changed_by effect_of
dealloc-is c p queue number d moment = record {
  alike = record { enabled = refl; index = refl; generation = refl; namespaces = refl };
  units = record { enabled = refl; index = refl; references = refl; is_lost = refl; is_worn = refl };
  blocks = refl;
}

pub held-deallocated : (c : DriveConfig) (found : Found) (first : Spot → Option Written) (es : List Entry) (t now : Tables) (queue number : ℕ) (d : Dealloc) (moment : ℕ) (outline : Summary) →
    IsHeld c found first es t → Follows true c (point_of c found es) (applied_entry queue number (commands.Dealloc d) (point_of c found es).state moment) → IsTrue d.deallocate → ClearsTables t now d.nsid (is_in_ranges d.ranges) → IsOutlineBehind c found es (applied_entry queue number (commands.Dealloc d) (point_of c found es).state moment) outline →
    IsHeld c found first (es ++ applied_entry queue number (commands.Dealloc d) (point_of c found es).state moment ∷ []) (record now { outline = outline })
held-deallocated c found first es t now queue number d moment outline h follows set clears behind =
    let bit : (λ (lba : ℕ). d.deallocate && is_in_ranges d.ranges lba) ≡ is_in_ranges d.ranges = (let with_bit : Bool → ℕ → Bool = λ b lba. b && is_in_ranges d.ranges lba in ap with_bit set) in
    held-cleared c found first es t now queue number (commands.Dealloc d) moment d.nsid (λ lba. d.deallocate && is_in_ranges d.ranges lba) outline h follows refl (dealloc-is c (point_of c found es) queue number d moment) refl
    (subst (λ (test : ℕ → Bool). ClearsTables t now d.nsid test) (sym bit) clears)
    behind
