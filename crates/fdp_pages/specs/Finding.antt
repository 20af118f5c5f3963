-- What an opening finds of the pages.
use Rattle.std.specs.Prelude.{◌≡◌, ℕ, ◌<◌, List, None, Some, length, slice_index_or}
use Rattle.fdp_base.specs.declared.config.Class.{Class}
use Rattle.fdp_base.specs.declared.config.Class.TheVariants.{Initial}
use Rattle.fdp_base.specs.declared.entry.Spot.{Spot}
use Rattle.fdp_base.specs.declared.spare.DataSpare.{DataSpare}
use Rattle.fdp_collector.specs.Ready.{lane_at}
use Rattle.fdp_owners.specs.declared.owner.Holder.TheVariants.{Block}
use Rattle.fdp_owners.specs.declared.owner.Owner.{Owner}
use Rattle.fdp_owners.specs.OwnerTable.{owner_at}
use Rattle.fdp_pages.specs.PageTables.{PageTables, passes_at}
use Rattle.fdp_passes.specs.declared.lane.Lane.{Lane}
use Rattle.fdp_passes.specs.GroupPasses.{lane_of}
use Rattle.fdp_units.specs.declared.data_unit.DataUnit.{DataUnit}
use Rattle.fdp_units.specs.declared.state.UnitState.TheVariants.{Closed}
use Rattle.fdp_units.specs.UnitTable.{Changes, IsGroup, IsUnit, is_worn_at, state_at, unit_at}

-- a unit that gets no page before it is erased
abbrev pub found_used : ℕ → DataUnit → DataUnit
found_used pages x = record x { state = Closed; next = pages }

-- a unit was found used, and nothing else changes
pub record FindsUsed (old new : PageTables) (unit : ℕ) : Type 0 where
  pub owners : new.owners ≡ old.owners
  pub unit_is : Changes old.units new.units unit (found_used old.units.unit_pages (unit_at old.units unit))
  pub worn : is_worn_at new.units ≡ is_worn_at old.units
  pub handles : new.handles ≡ old.handles
  pub passes : new.passes ≡ old.passes

-- the way that the data of a handle goes
abbrev pub lane_of_handle : List Class → ℕ → Lane
lane_of_handle classes ruh = lane_of (slice_index_or classes ruh Initial) ruh

-- the live pages of a unit go the way of a handle
abbrev pub GoWith : PageTables → ℕ → ℕ → Type 0
GoWith t unit ruh = (other : Spot) (y : Owner) → other.unit ≡ unit → owner_at t.owners other ≡ Some y → lane_at t.handles.classes y ≡ lane_of_handle t.handles.classes ruh

-- no unit is emptied
abbrev pub HasNoPass : PageTables → Type 0
HasNoPass t = (rg : ℕ) → IsGroup t.units rg → (passes_at t rg).pass ≡ None

-- the owner of a page that holds a block
abbrev pub of_found : DataSpare → Owner
of_found spare = record { holder = Block; spare = spare }

-- a page of a closed unit may be found to hold a block: it was used and has no owner, the live pages of the unit go the way of the handle
-- that its spare names, and no unit is emptied
pub record MayFind (t : PageTables) (spot : Spot) (spare : DataSpare) : Type 0 where
  pub is_unit : IsUnit t.units spot.unit
  pub closed : state_at t.units spot.unit ≡ Closed
  pub used : spot.page < (unit_at t.units spot.unit).next
  pub unowned : owner_at t.owners spot ≡ None
  pub handle : spare.ruh < length t.handles.classes
  pub way : GoWith t spot.unit spare.ruh
  pub quiet : HasNoPass t
