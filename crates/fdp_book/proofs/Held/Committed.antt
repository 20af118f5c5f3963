-- What a write that succeeds leaves of the tables.
use Rattle.std.proofs.Common.{◌≡◌, ◌≢◌, ℕ, zero, suc, ◌+◌, ◌-◌, ◌≤◌, ◌<◌, Bool, true, false, List, [], ◌∷◌, ◌++◌, length, slice_get, slice_set, Option, Some, None, refl, sym, ◌∙◌, ap, subst, arith, cond, inl, inr, eq-eqb, ne_eqb, leb-true, ltb-true, ⊎_elim}
use Rattle.std.specs.Prelude.{◌==◌, ◌&&◌, IsTrue, if◌then◌else◌, nat_le, nat_lt, option_and_then, option_map}
use Rattle.std.specs.Option.{option_map_or}
use Rattle.std.proofs.lemmas.Bool.{and_parts, cases_eq}
use Rattle.fdp_base.specs.declared.command.Command.{Command}
use Rattle.fdp_base.specs.declared.command.Command.TheVariants as commands
use Rattle.fdp_base.specs.declared.command.Write.{Write}
use Rattle.fdp_base.specs.declared.config.DriveConfig.{DriveConfig}
use Rattle.fdp_base.specs.declared.config.Geometry.{Geometry}
use Rattle.fdp_base.specs.declared.entry.Entry.{Entry}
use Rattle.fdp_base.specs.declared.entry.Spot.{Spot}
use Rattle.fdp_base.specs.declared.status.TheConstants.Status as statuses
use Rattle.fdp_base.specs.CommandKinds.{write_of}
use Rattle.fdp_base.specs.Numbers.{is_among, with_at}
use Rattle.fdp_base.specs.Placement.{geometry_of}
use Rattle.fdp_base.proofs.Writes.{write-is}
use Rattle.fdp_book.specs.declared.flight.Flight.{Flight}
use Rattle.fdp_book.specs.declared.tables.Tables.{Tables}
use Rattle.fdp_book.specs.Flown.{place_in, with_pages}
use Rattle.fdp_book.specs.Held.{IsHeld, IsMapOf, flight_in, going_of, lead_in, page_in}
use Rattle.fdp_book.specs.Outlined.{IsOutlineBehind}
use Rattle.fdp_book.specs.Taking.{IsPageIn, MayTake}
use Rattle.fdp_book.proofs.Committing.Points.{IsCommitted, blocks-count, blocks_with, committed}
use Rattle.fdp_book.proofs.Flights.Flown.{page-sited}
use Rattle.fdp_book.proofs.Flights.Rows.{flight_in-set}
use Rattle.fdp_book.proofs.Held.Ended.{flights-less, passes-same}
use Rattle.fdp_book.proofs.Held.Next.{held-next}
use Rattle.fdp_book.proofs.Held.Started.{copies-same}
use Rattle.fdp_book.proofs.Histories.Follows.{end-follows, write-succeeds}
use Rattle.fdp_book.proofs.Leading.{live_of, page-led, pages-same}
use Rattle.fdp_flash.proofs.Lists.{slice_get_there}
use Rattle.fdp_readings.specs.fdp_locations.Located.{AreLed, LeadsTo}
use Rattle.fdp_readings.specs.fdp_locations.Taken.{taken_first}
use Rattle.fdp_readings.specs.fdp_locations.Written.{Written, written_by}
use Rattle.fdp_readings.proofs.fdp_locations.Ended.{host, led-committed}
use Rattle.fdp_readings.proofs.fdp_locations.Taken.{taken-all}
use Rattle.fdp_readings.proofs.fdp_locations.Units.{owners-alike, owners-next, units-same}
use Rattle.fdp_map.specs.declared.mapped.Mapped.{Mapped}
use Rattle.fdp_map.specs.MapTable.{MapTable, mapped_at, mapped_on, size_in}
use Rattle.fdp_owners.specs.Owned.{AreOwners}
use Rattle.fdp_owners.specs.OwnerTable.{owner_at}
use Rattle.fdp_readings.specs.fdp_pages.PageTables.{passes_at}
use Rattle.fdp_readings.specs.fdp_pages.Steps.{ChangesOwners}
use Rattle.fdp_pointers.specs.Facts.{Page}
use Rattle.fdp_pointers.specs.Pointers.{Behind, Pointer, Pointer.of_block, Pointer.of_flight, renamed, taken_by}
use Rattle.fdp_rules.specs.Answer.{bare}
use Rattle.fdp_rules.specs.Effect.{block_of_write}
use Rattle.fdp_rules.specs.History.{Found, point_of}
use Rattle.fdp_rules.specs.Next.{next}
use Rattle.fdp_rules.specs.PlainState.{Block, Going, Namespace, PageName.written, PlainState}
use Rattle.fdp_rules.specs.Point.{Point}
use Rattle.fdp_rules.specs.Sites.{is_there}
use Rattle.fdp_rules.specs.Step.{Follows, MaySucceed}
use Rattle.fdp_readings.proofs.fdp_trails.Grouping.{all-renamed}

-- ---- the map

among-within : (slba count lba : ℕ) → is_among slba count lba ≡ true → lba - slba < count
among-within slba count lba e =
    let parts = and_parts (nat_le slba lba) (nat_lt lba (slba + count)) e in
    omega (arith, leb-true slba lba parts.0, ltb-true lba (slba + count) parts.1)

-- these pages lie in a group
abbrev pub LieIn : Geometry → ℕ → List Spot → Type 0
LieIn g rg spots = (index : ℕ) (spot : Spot) → slice_get spots index ≡ Some spot → IsPageIn g rg spot

group-placed : (g : Geometry) (rg : ℕ) (spots : List Spot) (index : ℕ) → index < length spots → LieIn g rg spots → option_map (λ (m : Mapped). m.rg) (place_in g spots index) ≡ Some rg
group-placed g rg spots index within lie =
    let found = slice_get_there spots index within in
    ap (λ (o : Option Spot). option_map (λ (m : Mapped). m.rg) (option_map (mapped_on g) o)) found.1 ∙ ap Some (lie index found.0 found.1).group

map-committed : (c : DriveConfig) (s n : PlainState) (map new : MapTable) (queue : ℕ) (f : Flight) (w : Write) → n.namespaces ≡ s.namespaces → n.blocks ≡ blocks_with c s queue w → s.going queue ≡ Some (going_of f) → length f.pages.items ≡ w.count →
    mapped_at new ≡ with_pages (mapped_at map) w.nsid w.slba map.geometry f.pages.items w.count → size_in new ≡ size_in map → new.geometry ≡ map.geometry → LieIn (geometry_of c) f.rg f.pages.items → IsMapOf c s map → IsMapOf c n new
map-committed c s n map new queue f w same blocks going count put sizes cut lie h = record {
  geometry = cut ∙ h.geometry;
  sizes = λ nsid. ap (λ (g : ℕ → Option Namespace). option_map_or (λ x. x.size) (g nsid) 0) same ∙ h.sizes nsid ∙ sym (ap (λ (g : ℕ → ℕ). g nsid) sizes);
  most = λ nsid. let size : size_in new nsid ≡ size_in map nsid = ap (λ (g : ℕ → ℕ). g nsid) sizes in omega (arith, size, h.most nsid);
  groups = λ nsid lba.
      ap (λ (g : ℕ → ℕ → Option Block). option_map (λ (b : Block). b.rg) (g nsid lba)) blocks
      ∙ chosen nsid lba (nsid == w.nsid && is_among w.slba w.count lba) refl
      ∙ sym (ap (λ (g : ℕ → ℕ → Option Mapped). option_map (λ (m : Mapped). m.rg) (g nsid lba)) put);
}
  where
    chosen : (nsid lba : ℕ) (b : Bool) → (nsid == w.nsid && is_among w.slba w.count lba) ≡ b → option_map (λ (x : Block). x.rg) (cond b (option_map (block_of_write c w.slba w.payload lba) (s.going queue)) (s.blocks nsid lba)) ≡ option_map (λ (m : Mapped). m.rg) (cond b (place_in map.geometry f.pages.items (lba - w.slba)) (mapped_at map nsid lba))
    chosen nsid lba true among =
        let within = among-within w.slba w.count lba (and_parts (nsid == w.nsid) (is_among w.slba w.count lba) among).1 in
        ap (λ (o : Option Going). option_map (λ (x : Block). x.rg) (option_map (block_of_write c w.slba w.payload lba) o)) going ∙ sym (group-placed map.geometry f.rg f.pages.items (lba - w.slba) (omega (arith, within, count)) (subst (λ (g : Geometry). LieIn g f.rg f.pages.items) (sym h.geometry) lie))
    chosen nsid lba false among = h.groups nsid lba

-- ---- where the pointers lead

spot-placed : (g : Geometry) (spots : List Spot) (index : ℕ) → option_map (λ (m : Mapped). m.spot) (place_in g spots index) ≡ slice_get spots index
spot-placed g spots index = each (slice_get spots index)
  where
    each : (o : Option Spot) → option_map (λ (m : Mapped). m.spot) (option_map (mapped_on g) o) ≡ o
    each None = refl
    each (Some s) = refl

flight-page : (s : PlainState) (map : MapTable) (flights : List (Option Flight)) (queue index : ℕ) (f : Flight) (at : Behind Page) → flight_in flights queue ≡ Some f → IsTrue (is_there s (going_of f)) → LeadsTo (lead_in s map flights) at → option_map (λ (y : Page). y.spot) (at (of_flight queue index)) ≡ slice_get f.pages.items index
flight-page s map flights queue index f at is there h =
    h (of_flight queue index) ∙ ap (option_and_then (page_in s index)) is ∙ ap (λ (b : Bool). if b then slice_get f.pages.items index else None) there

leads-committed : (s n : PlainState) (map new : MapTable) (flights left : List (Option Flight)) (queue : ℕ) (f : Flight) (w : Write) (at : Behind Page) → n.namespaces ≡ s.namespaces → queue < length flights → flight_in flights queue ≡ Some f → IsTrue (is_there s (going_of f)) → left ≡ slice_set flights queue None →
    mapped_at new ≡ with_pages (mapped_at map) w.nsid w.slba map.geometry f.pages.items w.count → LeadsTo (lead_in s map flights) at → LeadsTo (lead_in n new left) (renamed (taken_by queue w.nsid w.slba w.count) at)
leads-committed s n map new flights left queue f w at same row is there left_is put h (of_block nsid lba) =
    chosen (nsid == w.nsid && is_among w.slba w.count lba) ∙ sym (ap (λ (g : ℕ → ℕ → Option Mapped). option_map (λ (m : Mapped). m.spot) (g nsid lba)) put)
  where
    chosen : (b : Bool) → option_map (λ (y : Page). y.spot) (option_and_then at (if b then Some (of_flight queue (lba - w.slba)) else Some (of_block nsid lba))) ≡ option_map (λ (m : Mapped). m.spot) (cond b (place_in map.geometry f.pages.items (lba - w.slba)) (mapped_at map nsid lba))
    chosen true = flight-page s map flights queue (lba - w.slba) f at is there h ∙ sym (spot-placed map.geometry f.pages.items (lba - w.slba))
    chosen false = h (of_block nsid lba)
leads-committed s n map new flights left queue f w at same row is there left_is put h (of_flight q i) =
    let stands : flight_in left q ≡ with_at (flight_in flights) queue None q = ap (λ (fs : List (Option Flight)). flight_in fs q) left_is ∙ flight_in-set flights queue None row q in
    ⊎_elim
    (λ (e : q ≡ queue).
    ap (λ (b : Bool). option_map (λ (y : Page). y.spot) (option_and_then at (if b then None else Some (of_flight q i)))) (eq-eqb q queue e)
    ∙ sym (ap (option_and_then (page_in n i)) (stands ∙ ap (λ (b : Bool). if b then None else flight_in flights q) (eq-eqb q queue e))))
    (λ (ne : q ≢ queue).
    ap (λ (b : Bool). option_map (λ (y : Page). y.spot) (option_and_then at (if b then None else Some (of_flight q i)))) (ne_eqb q queue ne)
    ∙ h (of_flight q i)
    ∙ sym (ap (option_and_then (page_in n i)) (stands ∙ ap (λ (b : Bool). if b then None else flight_in flights q) (ne_eqb q queue ne)) ∙ pages-same s n i (flight_in flights q) same))
    (cases_eq q queue)

-- ---- the pages may be taken

live-there : (s : PlainState) (o : Option Flight) (f : Flight) → o ≡ Some f → IsTrue (is_there s (going_of f)) → live_of s o ≡ f.pages.items
live-there s o f is there = ap (live_of s) is ∙ ap (λ (b : Bool). if b then f.pages.items else []) there

pub may-take : (c : DriveConfig) (found : Found) (first : Spot → Option Written) (es : List Entry) (t : Tables) (queue : ℕ) (f : Flight) (w : Write) → (h : IsHeld c found first es t) → flight_in t.flights.items queue ≡ Some f → IsTrue (is_there (point_of c found es).state (going_of f)) → write_of f.room.command ≡ Some w → MayTake h.pages_are.at t.map t.pages queue w.nsid w.slba f.pages.items
may-take c found first es t queue f w h is there write = record {
  owned = h.pages_are.led.owned;
  mapped = λ lba. h.pages_are.leads (of_block w.nsid lba);
  pages = λ index spot e.
      let s : PlainState = (point_of c found es).state in
      let page = page-led s t.map t.flights.items h.pages_are.at queue index spot h.pages_are.leads (ap (λ (xs : List Spot). slice_get xs index) (live-there s (flight_in t.flights.items queue) f is there) ∙ e) in
      let names = h.pages_are.led.named queue index (going_of f) w page.0 (h.flights_are.going queue ∙ ap (option_map going_of) is) write page.1 in
      record { page = page.0; leads = page.1; spot_is = page.2; nsid_is = names.0; lba_is = names.1 };
}

none-behind : (xs : List Spot) (i : ℕ) → length xs ≤ i → slice_get xs i ≡ None
none-behind [] zero past = refl
none-behind [] (suc i) past = refl
none-behind (x ∷ xs) zero past = absurd (omega (arith, past))
none-behind (x ∷ xs) (suc i) past = none-behind xs i (omega (arith, past))

no-page : (o : Option Page) → option_map (λ (y : Page). y.spot) o ≡ None → o ≡ None
no-page None e = refl
no-page (Some y) e = absurd cc

-- ---- they lie in the group of the write

pub flight-lies : (c : DriveConfig) (found : Found) (first : Spot → Option Written) (es : List Entry) (t : Tables) (queue : ℕ) (f : Flight) → IsHeld c found first es t → flight_in t.flights.items queue ≡ Some f → IsTrue (is_there (point_of c found es).state (going_of f)) → LieIn (geometry_of c) f.rg f.pages.items
flight-lies c found first es t queue f h is there index spot e =
    let p : Point = point_of c found es in
    let site : p.trail.site (written f.ticket index) ≡ Some spot = page-sited c found first es t queue index spot f h is there e in
    let going : p.state.going queue ≡ Some (going_of f) = h.flights_are.going queue ∙ ap (option_map going_of) is in
    let lies = (h.orderly.sites f.ticket index spot site).page in
    record { page = record { unit = lies.0; page = lies.1 }; group = h.standing.writes queue index (going_of f) spot going site }

-- ---- the tables

-- the tables after the blocks of a flight took its pages
pub record TakesPages (t now : Tables) (queue : ℕ) (f : Flight) (w : Write) : Type 0 where
  pub put : mapped_at now.map ≡ with_pages (mapped_at t.map) w.nsid w.slba t.map.geometry f.pages.items w.count
  pub sizes : size_in now.map ≡ size_in t.map
  pub geometry : now.map.geometry ≡ t.map.geometry
  pub flights_are : now.flights.items ≡ slice_set t.flights.items queue None
  pub owners : (at : Behind Page) (k : ℕ) → MayTake at t.map t.pages k w.nsid w.slba f.pages.items → AreOwners (owner_at now.pages.owners) (renamed (taken_first k w.nsid w.slba w.count) at)
  pub pages : ChangesOwners t.pages now.pages

-- the entry of a flight that succeeds
abbrev pub success : ℕ → Flight → ℕ → Entry
success queue f moment = host queue f.number f.room.command (bare statuses.SUCCESS true) moment

pub held-committed : (c : DriveConfig) (found : Found) (first : Spot → Option Written) (es : List Entry) (t now : Tables) (queue moment : ℕ) (f : Flight) (w : Write) →
    IsHeld c found first es t → flight_in t.flights.items queue ≡ Some f → MaySucceed c (point_of c found es) (going_of f) → write_of f.room.command ≡ Some w → TakesPages t now queue f w → IsOutlineBehind c found es (success queue f moment) now.outline →
    IsHeld c found first (es ++ success queue f moment ∷ []) now
held-committed c found first es t now queue moment f w h is may write takes outline =
    let e : Entry = success queue f moment in
    let p : Point = point_of c found es in
    let q : Point = next c p e in
    let going : p.state.going queue ≡ Some (going_of f) = h.flights_are.going queue ∙ ap (option_map going_of) is in
    let orderly = h.orderly.state.writes queue (going_of f) going in
    let there : queue < length t.flights.items = omega (arith, orderly.queue_is.1, h.flights_are.rows) in
    let done : IsCommitted c p q queue w = committed c p queue f.number f.room.command moment w write in
    let count : length f.pages.items ≡ w.count = may.placed ∙ blocks-count f.room.command w write in
    let follows : Follows true c p e = end-follows true c p queue (going_of f) (bare statuses.SUCCESS true) moment orderly going (inr (inr (inl (may, write-succeeds true c p f.room.command orderly.write)))) in
    let command : f.room.command ≡ commands.Write w = write-is f.room.command w write in
    let r : Pointer → Option Pointer = taken_by queue w.nsid w.slba w.count in
    let pages = h.pages_are in
    let own : AreOwners (owner_at now.pages.owners) (renamed r pages.at) =
    taken-all queue w.nsid w.slba w.count (owner_at now.pages.owners) pages.at
    (λ i past. no-page (pages.at (of_flight queue i)) (flight-page p.state t.map t.flights.items queue i f pages.at is may.there pages.leads ∙ none-behind f.pages.items i (omega (arith, past, count))))
    (takes.owners pages.at queue (may-take c found first es t queue f w h is may.there write)) in
    let entry : (k : Command) → Entry = λ k. host queue f.number k (bare statuses.SUCCESS true) moment in
    held-next true c found first es e t now h follows
    (record {
      map_is = map-committed c p.state q.state t.map now.map queue f w done.alike.namespaces done.blocks going count takes.put takes.sizes takes.geometry (flight-lies c found first es t queue f h is may.there) h.map_is;
      flights_are = flights-less c p.state q.state t.flights.items now.flights.items queue there done.alike done.going takes.flights_are h.flights_are;
      units_are = units-same c p.state q.state t.pages now.pages done.units (owners-alike t.pages now.pages takes.pages) takes.pages.handles h.units_are;
    })
    outline
    (record {
      at = renamed r pages.at;
      led = subst (λ (k : Command). AreLed c (next c p (entry k)) (written_by c found first es) (renamed r pages.at) now.pages) (sym command)
          (led-committed true c p queue f.number w (bare statuses.SUCCESS true) moment (written_by c found first es) pages.at t.pages now.pages h.orderly.state (subst (λ (k : Command). Follows true c p (entry k)) command follows) refl own
          (λ unit. omega (arith, owners-next t.pages now.pages takes.pages unit))
          (all-renamed c p (entry (commands.Write w)) pages.at c.groups (passes_at t.pages) (passes_at now.pages) refl (λ rg low. inl (passes-same t.pages now.pages takes.pages.passes rg)) (λ rg low ends. absurd cc) pages.led.passes)
          (copies-same t.pages now.pages takes.pages.passes)
          pages.led);
      leads = leads-committed p.state q.state t.map now.map t.flights.items now.flights.items queue f w pages.at done.alike.namespaces there is may.there takes.flights_are takes.put pages.leads;
    })
