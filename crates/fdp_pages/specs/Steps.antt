-- How the tables of the pages change.
use Rattle.std.specs.Prelude.{◌≡◌, ◌⊎◌, ℕ, ◌+◌, ◌<◌, Contains, List, Option, None, Some, true, IsSome, IsTrue, MatchOption, is_some, length, option_map, replicate, slice_get, if◌then◌else◌}
use Rattle.std.specs.List.{list_any}
use Rattle.fdp_base.specs.declared.config.Class.{Class}
use Rattle.fdp_base.specs.declared.config.DriveConfig.{DriveConfig}
use Rattle.fdp_base.specs.declared.entry.Copied.{Copied}
use Rattle.fdp_base.specs.declared.entry.Spot.{Spot}
use Rattle.fdp_handles.specs.HandleTable.{HandleTable, blank, reference_at}
use Rattle.fdp_owners.specs.declared.owner.Owner.{Owner}
use Rattle.fdp_owners.specs.OwnerTable.{OwnerTable, live_in, owner_at, with_owner}
use Rattle.fdp_pages.specs.PageTables.{PageTables, copies_at, left_of, passes_at, unit_of}
use Rattle.fdp_passes.specs.declared.lane.Lane.{Lane}
use Rattle.fdp_passes.specs.GroupPasses.{GroupPasses, target_at, without_copies}
use Rattle.fdp_rules.specs.Change.{one_less}
use Rattle.fdp_rules.specs.Effect.{no_reference, updated_at, with_reference}
use Rattle.fdp_rules.specs.PlainState.{Reference}
use Rattle.fdp_rules.specs.Sites.{is_spot}
use Rattle.fdp_units.specs.declared.data_unit.DataUnit.{DataUnit}
use Rattle.fdp_units.specs.declared.state.UnitState.TheVariants.{Closed, Referenced}
use Rattle.fdp_units.specs.DataUnits.{is_free, is_open, raised, used}
use Rattle.fdp_units.specs.UnitTable.{Changes, IsFreeUnit, IsGroup, IsUnit, UnitTable, cut_of, is_worn_at, unit_at}

-- the page that a handle uses next: the first one of a free unit where it has none, else that behind the used ones of its unit
pub record MayPut (t : PageTables) (rg ruh : ℕ) (spot : Spot) : Type 0 where
  pub group : IsGroup t.units rg
  pub handle : ruh < length t.handles.classes
  pub page : MatchOption (unit_of t rg ruh) (IsFreeUnit t.units rg spot.unit × (spot.page ≡ 0)) (λ unit. (spot.unit ≡ unit) × (spot.page + left_of t rg ruh ≡ t.units.unit_pages))

-- there are as many owners as before
pub record HasSize (old new : OwnerTable) : Type 0 where
  pub unit_pages : new.unit_pages ≡ old.unit_pages
  pub pages : length new.pages ≡ length old.pages

-- a handle takes a free unit
abbrev pub taken : DataUnit → DataUnit
taken x = record x { state = if is_free x.state then Referenced else x.state }

-- the next page of a unit is used for nothing, and the unit is closed
abbrev pub closed_after : DataUnit → DataUnit
closed_after x = record x { state = Closed; next = x.next + 1 }

-- what a handle references becomes another, for every configuration with units of this size; all else of the handles stays
pub record Refers (old new : HandleTable) (rg ruh : ℕ) (becomes : DriveConfig → Reference) : Type 0 where
  pub references : (c : DriveConfig) → c.unit_pages ≡ old.unit_pages → reference_at new ≡ with_reference (reference_at old) rg ruh (becomes c)
  pub rest : new ≡ record old { rows = new.rows }

-- a handle puts a page: the page gets an owner, it is used and live in its unit, and one less is left for the handle
pub record PutsPage (old new : PageTables) (rg ruh : ℕ) (spot : Spot) (owner : Owner) : Type 0 where
  pub owners : owner_at new.owners ≡ with_owner (owner_at old.owners) spot (Some owner)
  pub size : HasSize old.owners new.owners
  pub unit : Changes old.units new.units spot.unit (raised (used old.units.unit_pages (taken (unit_at old.units spot.unit))))
  pub worn : is_worn_at new.units ≡ is_worn_at old.units
  pub handles : Refers old.handles new.handles rg ruh (λ c. one_less c spot.unit (reference_at old.handles rg ruh))
  pub passes : new.passes ≡ old.passes

-- a page of a handle is used for nothing: its unit is closed, and the handle has none
pub record ShutsUnit (old new : PageTables) (rg ruh : ℕ) (spot : Spot) : Type 0 where
  pub owners : new.owners ≡ old.owners
  pub unit : Changes old.units new.units spot.unit (closed_after (unit_at old.units spot.unit))
  pub worn : is_worn_at new.units ≡ is_worn_at old.units
  pub handles : Refers old.handles new.handles rg ruh no_reference
  pub passes : new.passes ≡ old.passes

-- the unit of a handle is closed, and the handle has none
pub record ClosesUnit (old new : PageTables) (rg ruh unit : ℕ) : Type 0 where
  pub owners : new.owners ≡ old.owners
  pub becomes : Changes old.units new.units unit (record (unit_at old.units unit) { state = Closed })
  pub worn : is_worn_at new.units ≡ is_worn_at old.units
  pub handles : Refers old.handles new.handles rg ruh no_reference
  pub passes : new.passes ≡ old.passes

-- each unit is as it was but for how many of its pages are live: as many as have an owner
pub record Recounts (old new : UnitTable) (o : OwnerTable) : Type 0 where
  pub kept : (unit : ℕ) → unit_at new unit ≡ record (unit_at old unit) { live = (unit_at new unit).live }
  pub counted : (unit : ℕ) → IsUnit old unit → (unit_at new unit).live ≡ live_in o unit
  pub cut : cut_of new ≡ cut_of old
  pub worn : is_worn_at new ≡ is_worn_at old

-- only owners change, and how many pages of each unit are live
pub record ChangesOwners (old new : PageTables) : Type 0 where
  pub size : HasSize old.owners new.owners
  pub units : Recounts old.units new.units new.owners
  pub handles : new.handles ≡ old.handles
  pub passes : new.passes ≡ old.passes

-- each of these pages has an owner, and no two are one
pub record AreOwned (o : OwnerTable) (spots : List Spot) : Type 0 where
  pub owned : (spot : Spot) → Contains spots spot → IsSome (owner_at o spot)
  pub differ : (i j : ℕ) (spot : Spot) → slice_get spots i ≡ Some spot → slice_get spots j ≡ Some spot → i ≡ j

-- these pages have no owner any more
abbrev pub without : (Spot → Option Owner) → List Spot → Spot → Option Owner
without owners spots at = if list_any (is_spot at) spots then None else owners at

-- where the old page of a copy is live its owner gets the new page
abbrev pub moved : (Spot → Option Owner) → Copied → Spot → Option Owner
moved owners copy = if is_some (owners copy.from) then with_owner (with_owner owners copy.from None) copy.to (owners copy.from) else owners

-- no copy of the pass under way in a group waits for its move: none has a live old page
abbrev pub HasMoved : PageTables → ℕ → Type 0
HasMoved t rg = (copy : Copied) → Contains (copies_at t rg) copy → owner_at t.owners copy.from ≡ None

-- the pass has no copies any more
abbrev pub ended_move : GroupPasses → GroupPasses
ended_move p = record p { pass = option_map without_copies p.pass }

-- a unit is as it was, or was open and is closed
abbrev pub IsLeft : DataUnit → DataUnit → Type 0
IsLeft old new = (new ≡ old) ⊎ (IsTrue (is_open old.state) × (new ≡ record old { state = Closed }))

-- Handles are left without their units, and lanes without their targets; these units are closed. All else of the units stays, and so do
-- owners and passes; of the classes nothing is said
pub record LeavesUnits (old new : PageTables) : Type 0 where
  pub owners : new.owners ≡ old.owners
  pub cut : cut_of new.units ≡ cut_of old.units
  pub units : (unit : ℕ) → IsLeft (unit_at old.units unit) (unit_at new.units unit)
  pub worn : is_worn_at new.units ≡ is_worn_at old.units
  pub handles : (rg ruh : ℕ) → (reference_at new.handles rg ruh ≡ reference_at old.handles rg ruh) ⊎ (reference_at new.handles rg ruh ≡ blank old.units.unit_pages)
  pub passes : (rg : ℕ) → (passes_at new rg).pass ≡ (passes_at old rg).pass
  pub targets : (rg : ℕ) (lane : Lane) → (target_at (passes_at new rg) lane ≡ target_at (passes_at old rg) lane) ⊎ (target_at (passes_at new rg) lane ≡ None)

-- a handle of a group is updated: where its unit is partly written that is closed, and the handle has none
pub record UpdatesHandle (old new : PageTables) (rg ruh : ℕ) : Type 0 where
  pub leaves : LeavesUnits old new
  pub references : (c : DriveConfig) → c.unit_pages ≡ old.handles.unit_pages → reference_at new.handles ≡ updated_at c (reference_at old.handles) (record { rg = rg; ruh = ruh; valid = true })
  pub none : unit_of new rg ruh ≡ None
  pub rest : new.handles ≡ record old.handles { rows = new.handles.rows }
  pub passes : new.passes ≡ old.passes

-- no page has an owner
abbrev pub HasNoOwner : PageTables → Type 0
HasNoOwner t = (spot : Spot) → owner_at t.owners spot ≡ None

-- a group without targets
abbrev pub without_targets : GroupPasses → GroupPasses
without_targets p = record p { targets = replicate 17 None }

-- handles of other classes are in force: none has a unit, and no lane a target
pub record SetsClasses (old new : PageTables) (classes : List Class) : Type 0 where
  pub leaves : LeavesUnits old new
  pub references : (rg ruh : ℕ) → reference_at new.handles rg ruh ≡ blank old.units.unit_pages
  pub handles : new.handles ≡ record old.handles { classes = classes; rows = new.handles.rows }
  pub targets : (rg : ℕ) (lane : Lane) → target_at (passes_at new rg) lane ≡ None
