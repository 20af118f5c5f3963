-- How the tables change while a pass is moved, copy by copy.
use Rattle.std.specs.Prelude.{◌≡◌, ℕ, ◌<◌, ◌++◌, IfSome, IsSome, List, Option, Some, length, option_map, slice_get, slice_set}
use Rattle.std.specs.Prelude.{option_to_list, take}
use Rattle.fdp_base.specs.declared.entry.BlockName.{BlockName}
use Rattle.fdp_base.specs.declared.entry.Copied.{Copied}
use Rattle.fdp_base.specs.declared.entry.Spot.{Spot}
use Rattle.fdp_base.specs.declared.spare.DataSpare.{DataSpare}
use Rattle.fdp_book.specs.declared.flight.Flight.{Flight}
use Rattle.fdp_book.specs.declared.tables.Tables.{Tables}
use Rattle.fdp_book.specs.Held.{flight_in, going_of, lead_in}
use Rattle.fdp_book.specs.Taking.{IsPageIn}
use Rattle.fdp_readings.specs.fdp_locations.Located.{LeadsTo}
use Rattle.fdp_map.specs.declared.mapped.Mapped.{Mapped}
use Rattle.fdp_map.specs.MapTable.{MapTable, mapped_at, size_in, with_mapped}
use Rattle.fdp_owners.specs.declared.owner.Holder.{Holder}
use Rattle.fdp_owners.specs.declared.owner.Holder.TheVariants as holders
use Rattle.fdp_owners.specs.declared.owner.Owner.{Owner}
use Rattle.fdp_owners.specs.Owned.{AreOwners}
use Rattle.fdp_owners.specs.OwnerTable.{owner_at}
use Rattle.fdp_readings.specs.fdp_pages.PageTables.{copies_at}
use Rattle.fdp_readings.specs.fdp_pages.Steps.{ChangesOwners, moved}
use Rattle.fdp_pointers.specs.Facts.{Page}
use Rattle.fdp_pointers.specs.Pointers.{Behind}
use Rattle.fdp_rules.specs.PlainState.{PlainState}
use Rattle.fdp_units.specs.UnitTable.{UnitTable, cut_of}
use Rattle.fdp_readings.specs.fdp_trails.Moves.{name_at, owners_moved}

-- a block is at this page
abbrev pub moved_to : Spot → Mapped → Mapped
moved_to to m = record m { spot = to }

-- a flight is there, with a page of this index
pub record HasPageAt (x : Option Flight) (index : ℕ) : Type 0 where
  pub flight : Flight
  pub flight_is : x ≡ Some flight
  pub within : index < length flight.pages.items

-- the flight with another page in the place of one
pub record SetsPage (old : Flight) (index : ℕ) (to : Spot) (new : Flight) : Type 0 where
  pub going_is : going_of new ≡ going_of old
  pub pages_are : new.pages.items ≡ slice_set old.pages.items index to

-- a flight is there still, with that page
abbrev pub PutsPageAt : Option Flight → Option Flight → ℕ → Spot → Type 0
PutsPageAt old new index to = (f : Flight) → old ≡ Some f → (g : Flight) × (new ≡ Some g) × SetsPage f index to g

-- what an owner points to has a page: a block in the map, or a block of a going write in its flight
abbrev pub HasPageIn : MapTable → List (Option Flight) → Holder → DataSpare → Type 0
HasPageIn map flights holders.Block spare = IsSome (mapped_at map spare.nsid spare.lba)
HasPageIn map flights (holders.Flight queue) spare = HasPageAt (flight_in flights queue) spare.index

abbrev pub HasPage : MapTable → List (Option Flight) → Owner → Type 0
HasPage map flights x = HasPageIn map flights x.holder x.spare

-- a block goes to a page of its group
abbrev pub StaysIn : MapTable → Holder → DataSpare → Spot → Type 0
StaysIn map holders.Block spare to = IfSome (mapped_at map spare.nsid spare.lba) (λ (m : Mapped). IsPageIn map.geometry m.rg to)
StaysIn map (holders.Flight queue) spare to = Unit {0}

-- a block has another page in the map
pub record PutsBlock (old new : MapTable) (nsid lba : ℕ) (to : Spot) : Type 0 where
  pub blocks : mapped_at new ≡ with_mapped (mapped_at old) nsid lba (option_map (moved_to to) (mapped_at old nsid lba))
  pub sizes : size_in new ≡ size_in old
  pub geometry : new.geometry ≡ old.geometry

-- a block of the write in a queue has another page in its flight
pub record PutsFlight (old new : List (Option Flight)) (queue index : ℕ) (to : Spot) : Type 0 where
  pub flight : Option Flight
  pub flight_is : PutsPageAt (flight_in old queue) flight index to
  pub flights_are : new ≡ slice_set old queue flight

-- what an owner points to has this page now, and nothing else changes
abbrev pub IsMovedIn : MapTable → MapTable → List (Option Flight) → List (Option Flight) → Holder → DataSpare → Spot → Type 0
IsMovedIn map new flights now holders.Block spare to = PutsBlock map new spare.nsid spare.lba to × (now ≡ flights)
IsMovedIn map new flights now (holders.Flight queue) spare to = PutsFlight flights now queue spare.index to × (new ≡ map)

abbrev pub IsMoved : MapTable → MapTable → List (Option Flight) → List (Option Flight) → Owner → Spot → Type 0
IsMoved map new flights now x to = IsMovedIn map new flights now x.holder x.spare to

-- the map and the flights lead where the owners of the pages say
pub record LeadAsOwned (s : PlainState) (t : Tables) : Type 0 where
  pub at : Behind Page
  pub owned : AreOwners (owner_at t.pages.owners) at
  pub leads : LeadsTo (lead_in s t.map t.flights.items) at

-- the map is of the flash of the pages
abbrev pub SharesCut : MapTable → UnitTable → Type 0
SharesCut map units = cut_of units ≡ record { unit_pages = map.geometry.unit_pages; group_units = map.geometry.units; groups = map.geometry.groups }

-- in some state
abbrev pub CanMove : Tables → Type 0
CanMove t = (s : PlainState) × LeadAsOwned s t

-- each block of the map has the group that it had
pub record KeepsGroups (old new : MapTable) : Type 0 where
  pub geometry : new.geometry ≡ old.geometry
  pub sizes : size_in new ≡ size_in old
  pub groups : (nsid lba : ℕ) → option_map (λ (m : Mapped). m.rg) (mapped_at new nsid lba) ≡ option_map (λ (m : Mapped). m.rg) (mapped_at old nsid lba)

-- the same writes are going
pub record KeepsFlights (old new : List (Option Flight)) : Type 0 where
  pub rows : length new ≡ length old
  pub going : (queue : ℕ) → option_map going_of (flight_in new queue) ≡ option_map going_of (flight_in old queue)

-- only pages in the map and in the flights change, and the owners of pages; each leads where these say
pub record KeepsLead (old new : Tables) : Type 0 where
  pub map : KeepsGroups old.map new.map
  pub flights : KeepsFlights old.flights.items new.flights.items
  pub pages : ChangesOwners old.pages new.pages
  pub leads : (s : PlainState) → LeadAsOwned s old → LeadAsOwned s new
  pub rest : new ≡ record old { map = new.map; flights = new.flights; pages = new.pages }

-- a copy of the pass under way in a group was moved
pub record MovesCopy (old new : Tables) (rg index : ℕ) : Type 0 where
  pub owners : IfSome (slice_get (copies_at old.pages rg) index) (λ (copy : Copied). owner_at new.pages.owners ≡ moved (owner_at old.pages.owners) copy)
  pub kept : KeepsLead old new

-- if a block stood at its old page the block is listed
abbrev pub NamesCopy : Tables → ℕ → ℕ → List BlockName → List BlockName → Type 0
NamesCopy t rg index old new = IfSome (slice_get (copies_at t.pages rg) index) (λ (copy : Copied). new ≡ old ++ option_to_list (name_at (owner_at t.pages.owners) copy.from))

-- so many copies of the pass were moved, the first ones
pub record MovesCopies (old new : Tables) (rg count : ℕ) : Type 0 where
  pub owners : owner_at new.pages.owners ≡ owners_moved (owner_at old.pages.owners) (take count (copies_at old.pages rg))
  pub kept : KeepsLead old new
