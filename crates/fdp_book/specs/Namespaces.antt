-- A namespace that is deleted, and one that is created, in the tables beside the outline.
use Rattle.std.specs.Prelude.{◌≡◌, ℕ, ◌≤◌, ◌==◌, ◌&&◌, Bool, false, true, List, [], None, Option, Some, nat_lt, not, option_map, slice_get, if◌then◌else◌}
use Rattle.std.specs.Option.{option_map_or}
use Rattle.fdp_base.specs.declared.command.Create.{Create}
use Rattle.fdp_base.specs.declared.entry.Spot.{Spot}
use Rattle.fdp_base.specs.Numbers.{with_at}
use Rattle.fdp_book.specs.declared.flight.Flight.{Flight}
use Rattle.fdp_book.specs.declared.tables.Tables.{Tables}
use Rattle.fdp_book.specs.Clearing.{AreMapped}
use Rattle.fdp_book.specs.Commanded.{LetsGo}
use Rattle.fdp_book.specs.Forgetting.{live_pages}
use Rattle.fdp_book.specs.Held.{flight_in}
use Rattle.fdp_map.specs.MapTable.{mapped_at, size_in}
use Rattle.fdp_owners.specs.Owned.{AreOwners}
use Rattle.fdp_owners.specs.OwnerTable.{owner_at}
use Rattle.fdp_readings.specs.fdp_pages.PageTables.{PageTables}
use Rattle.fdp_pointers.specs.Facts.{Page}
use Rattle.fdp_pointers.specs.Pointers.{Behind, Pointer, Pointer.of_block, Pointer.of_flight, only, renamed}
use Rattle.fdp_rules.specs.Effect.{lowest_free}
use Rattle.fdp_rules.specs.PlainState.{PlainState}
use Rattle.fdp_outline.specs.Handles.{namespace_at}
use Rattle.fdp_snapshot.specs.declared.state.Summary.{Summary}

-- ---- writes to a namespace

-- the pointers of going writes lead where their flights say, and each page has the owner that points there
pub record AreFlown (at : Behind Page) (outline : Summary) (flights : List (Option Flight)) (t : PageTables) : Type 0 where
  pub owned : AreOwners (owner_at t.owners) at
  pub flown : (queue index : ℕ) → option_map (λ (y : Page). y.spot) (at (of_flight queue index)) ≡ slice_get (live_pages outline (flight_in flights queue)) index

-- in some way
pub record HasFlights (outline : Summary) (flights : List (Option Flight)) (t : PageTables) : Type 0 where
  pub at : Behind Page
  pub are : AreFlown at outline flights t

-- a write goes to a namespace
abbrev pub goes_to : ℕ → Flight → Bool
goes_to nsid f = f.extent.nsid == nsid

-- the pages of a write that may be going to a namespace, while that is there
abbrev pub pages_to : Summary → ℕ → Option Flight → List Spot
pages_to outline nsid None = []
pages_to outline nsid (Some f) = if goes_to nsid f then live_pages outline (Some f) else []

-- the write in a queue goes to a namespace
abbrev pub is_to : List (Option Flight) → ℕ → ℕ → Bool
is_to flights nsid queue = option_map_or (goes_to nsid) (flight_in flights queue) false

-- not of a write to this namespace, in one of so many queues
abbrev pub is_apart : List (Option Flight) → ℕ → ℕ → Pointer → Bool
is_apart flights nsid queues (of_block n lba) = true
is_apart flights nsid queues (of_flight q i) = not (nat_lt q queues && is_to flights nsid q)

-- the pages of the writes to a namespace in so many queues have no owner any more; all else of the pages stays
pub record Releases (outline : Summary) (flights : List (Option Flight)) (nsid queues : ℕ) (t now : PageTables) : Type 0 where
  pub owners : (at : Behind Page) → AreFlown at outline flights t → AreOwners (owner_at now.owners) (renamed (only (is_apart flights nsid queues)) at)
  pub pages : LetsGo t now

-- ---- a namespace that is deleted

-- neither a block of this namespace nor of a write to it
abbrev pub is_away : List (Option Flight) → ℕ → Pointer → Bool
is_away flights nsid (of_block n lba) = not (n == nsid)
is_away flights nsid (of_flight q i) = not (is_to flights nsid q)

-- the pointers lead where the tables say
pub record ArePointed (t : Tables) : Type 0 where
  pub at : Behind Page
  pub mapped : AreMapped at t.map t.pages
  pub flown : AreFlown at t.outline t.flights.items t.pages

-- The blocks of a namespace are gone, with its places, and the pages of these and of the writes to it have no owner any more. All else stays
pub record Deletes (old new : Tables) (nsid : ℕ) : Type 0 where
  pub blocks : mapped_at new.map ≡ with_at (mapped_at old.map) nsid (λ lba. None)
  pub sizes : size_in new.map ≡ with_at (size_in old.map) nsid 0
  pub geometry : new.map.geometry ≡ old.map.geometry
  pub owners : (at : Behind Page) → AreMapped at old.map old.pages → AreFlown at old.outline old.flights.items old.pages → AreOwners (owner_at new.pages.owners) (renamed (only (is_away old.flights.items nsid)) at)
  pub pages : LetsGo old.pages new.pages
  pub rest : new ≡ record old { map = new.map; pages = new.pages }

-- ---- a namespace that is created

-- an identifier is free, under which the map has no place; the namespace is not too large
pub record CanCreate (t : Tables) (create : Create) : Type 0 where
  pub state : PlainState
  pub agrees : (nsid : ℕ) → state.namespaces nsid ≡ namespace_at t.outline nsid
  pub nsid : ℕ
  pub free : lowest_free state ≡ Some nsid
  pub absent : size_in t.map nsid ≡ 0
  pub size : create.size ≤ 262144

-- A namespace has its places in the map under the lowest free identifier, without blocks. All else stays
pub record Creates (old new : Tables) (create : Create) : Type 0 where
  pub nsid : ℕ
  pub free : (s : PlainState) → ((n : ℕ) → s.namespaces n ≡ namespace_at old.outline n) → lowest_free s ≡ Some nsid
  pub blocks : mapped_at new.map ≡ mapped_at old.map
  pub sizes : size_in new.map ≡ with_at (size_in old.map) nsid create.size
  pub geometry : new.map.geometry ≡ old.map.geometry
  pub rest : new ≡ record old { map = new.map }
