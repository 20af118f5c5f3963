-- How the tables of a book stand for its history: one record for each pair of a table and what it follows.
use Rattle.std.specs.Prelude.{◌≡◌, ℕ, ◌+◌, ◌^◌, ◌≤◌, ◌<◌, IsTrue, List, Option, Some, None, length, slice_get, option_and_then, option_map, if◌then◌else◌}
use Rattle.std.specs.Option.{option_flatten}
use Rattle.fdp_base.specs.declared.config.DriveConfig.{DriveConfig}
use Rattle.fdp_base.specs.declared.entry.Entry.{Entry}
use Rattle.fdp_base.specs.declared.entry.Spot.{Spot}
use Rattle.fdp_base.specs.Config.{IsValidConfig}
use Rattle.fdp_base.specs.Placement.{geometry_of}
use Rattle.fdp_book.specs.declared.flight.Flight.{Flight}
use Rattle.fdp_book.specs.declared.tables.Tables.{Tables}
use Rattle.fdp_book.specs.Book.{BookSeen}
use Rattle.fdp_book.specs.Logged.{Logged}
use Rattle.fdp_book.specs.Outlined.{AreFew, IsOutlineAt}
use Rattle.fdp_history.specs.Listed.{IsListed}
use Rattle.fdp_history.specs.Orderly.{IsOrderly}
use Rattle.fdp_history.specs.Standing.{IsStanding}
use Rattle.fdp_readings.specs.fdp_locations.Held.{pages_held}
use Rattle.fdp_readings.specs.fdp_locations.Located.{AreLed, AreUnitsOf, LeadsTo}
use Rattle.fdp_readings.specs.fdp_locations.Written.{Written, written_by}
use Rattle.fdp_map.specs.declared.mapped.Mapped.{Mapped}
use Rattle.fdp_origin.specs.Opening.{Opening}
use Rattle.fdp_map.specs.MapTable.{MapTable, mapped_at, size_in}
use Rattle.fdp_readings.specs.fdp_pages.PageTables.{PageTables}
use Rattle.fdp_pointers.specs.Facts.{Page}
use Rattle.fdp_pointers.specs.Pointers.{Behind, Pointer, Pointer.of_block, Pointer.of_flight}
use Rattle.fdp_rules.specs.History.{Found, point_of}
use Rattle.fdp_rules.specs.PlainState.{Block, Going, PlainState}
use Rattle.fdp_rules.specs.Point.{Point}
use Rattle.fdp_rules.specs.Room.{size_of}
use Rattle.fdp_rules.specs.Sites.{is_there}
use Rattle.fdp_rules.specs.Step.{IsOnTarget}
use Rattle.fdp_book.specs.declared.log.TheConstants.{MOST_STEP_ENTRIES}

-- the map is of the flash of the configuration, has a place for each block of each namespace, and tells the group of each block; namespaces
-- have at most 262,144 blocks
pub record IsMapOf (c : DriveConfig) (s : PlainState) (x : MapTable) : Type 0 where
  pub geometry : x.geometry ≡ geometry_of c
  pub sizes : (nsid : ℕ) → size_of s nsid ≡ size_in x nsid
  pub most : (nsid : ℕ) → size_in x nsid ≤ 262144
  pub groups : (nsid lba : ℕ) → option_map (λ (b : Block). b.rg) (s.blocks nsid lba) ≡ option_map (λ (m : Mapped). m.rg) (mapped_at x nsid lba)

-- the flight in a queue
abbrev pub flight_in : List (Option Flight) → ℕ → Option Flight
flight_in flights queue = option_flatten (slice_get flights queue)

-- a flight as a going write
abbrev pub going_of : Flight → Going
going_of f = record {
  number = f.number;
  command = f.room.command;
  ticket = f.ticket;
  birth = f.birth;
  rg = f.rg;
  ruh = f.ruh;
  pid_valid = f.pid_valid;
  roomiest = f.roomiest;
  placed = length f.pages.items;
}

-- the going writes, by queue; while its namespace is there, each goes where it was started for
pub record AreFlightsOf (c : DriveConfig) (s : PlainState) (flights : List (Option Flight)) : Type 0 where
  pub rows : length flights ≡ c.queues + 1
  pub going : (queue : ℕ) → s.going queue ≡ option_map going_of (flight_in flights queue)
  pub target : (queue : ℕ) (f : Flight) → flight_in flights queue ≡ Some f → IsTrue (is_there s (going_of f)) → IsOnTarget c s (going_of f)

-- page `index` of a flight, while its namespace is there
abbrev pub page_in : PlainState → ℕ → Flight → Option Spot
page_in s index f = if is_there s (going_of f) then slice_get f.pages.items index else None

-- where the pointers lead by the map and the flights
abbrev pub lead_in : PlainState → MapTable → List (Option Flight) → Pointer → Option Spot
lead_in s map flights (of_block nsid lba) = option_map (λ (m : Mapped). m.spot) (mapped_at map nsid lba)
lead_in s map flights (of_flight queue index) = option_and_then (page_in s index) (flight_in flights queue)

-- the pages stand for a point, and the pointers lead where the map and the flights say
pub record ArePagesOf (c : DriveConfig) (p : Point) (written : Spot → Option Written) (map : MapTable) (flights : List (Option Flight)) (t : PageTables) : Type 0 where
  pub at : Behind Page
  pub led : AreLed c p written at t
  pub leads : LeadsTo (lead_in p.state map flights) at

-- the tables stand for what stands at a point, after these entries, by which pages hold this
pub record IsHeldAt (c : DriveConfig) (es : List Entry) (p : Point) (written : Spot → Option Written) (t : Tables) : Type 0 where
  pub config : IsValidConfig c
  pub orderly : IsOrderly c p
  pub standing : IsStanding c p
  pub listed : IsListed c p.state
  pub outline_is : IsOutlineAt c p t.outline
  pub few : AreFew es t.outline.totals
  pub map_is : IsMapOf c p.state t.map
  pub flights_are : AreFlightsOf c p.state t.flights.items
  pub units_are : AreUnitsOf c p.state t.pages
  pub pages_are : ArePagesOf c p written t.map t.flights.items t.pages

-- the tables of a book stand for its history, which began with what was found
abbrev pub IsHeld : DriveConfig → Found → (Spot → Option Written) → List Entry → Tables → Type 0
IsHeld c found first es t = IsHeldAt c es (point_of c found es) (written_by c found first es) t

-- what is seen of a book, by its parts
abbrev pub book_of : DriveConfig → Opening → Logged → Tables → BookSeen
book_of c opening log t = record {
  config = c;
  found = opening.found;
  opened = opening.cells;
  entries = log.entries;
  spare = log.spare;
  spent = log.spent;
  room = log.room;
  may_move = log.may_move;
  pages = t.pages;
}

-- A step sets the placement at most once, as the first that it does: so the generation, which was below 2 ^ 31 when the run began, has a
-- number for the setting of each step
pub record HasNumbers (generation : ℕ) (log : Logged) : Type 0 where
  pub few : generation ≤ 2 ^ 31 + log.spent
  pub fewer : MOST_STEP_ENTRIES ≤ log.room → generation < 2 ^ 31 + log.spent

-- the parts of a book stand for its history: its tables do, and its log goes on from the position that was found
pub record IsBook (c : DriveConfig) (opening : Opening) (log : Logged) (t : Tables) : Type 0 where
  pub held : IsHeld c opening.found (pages_held c opening.cells) log.entries t
  pub before_is : log.before ≡ opening.found.totals.position
  pub names_are : log.names ≡ c.unit_pages
  pub numbers : HasNumbers t.outline.generation log
