-- When a page that was used may get an owner.
use Rattle.std.specs.Prelude.{◌≡◌, ◌≢◌, ℕ, ◌≤◌, ◌<◌, ◌||◌, Contains, IsTrue, Some, None, length}
use Rattle.fdp_base.specs.declared.entry.Copied.{Copied}
use Rattle.fdp_base.specs.declared.entry.Spot.{Spot}
use Rattle.fdp_collector.specs.Ready.{lane_at}
use Rattle.fdp_owners.specs.declared.owner.Owner.{Owner}
use Rattle.fdp_owners.specs.OwnerTable.{owner_at}
use Rattle.fdp_pages.specs.PageTables.{PageTables, passes_at}
use Rattle.fdp_passes.specs.declared.lane.Lane.{Lane}
use Rattle.fdp_passes.specs.GroupPasses.{Pass, target_at}
use Rattle.fdp_units.specs.DataUnits.{is_closed, is_target}
use Rattle.fdp_units.specs.UnitTable.{IsGroup, IsUnit, state_at, unit_at}

-- a used page without an owner, in a unit that is a target or was one
pub record IsCopyPage (t : PageTables) (spot : Spot) : Type 0 where
  pub is_unit : IsUnit t.units spot.unit
  pub stands : IsTrue (is_target (state_at t.units spot.unit) || is_closed (state_at t.units spot.unit))
  pub used : spot.page < (unit_at t.units spot.unit).next
  pub within : (unit_at t.units spot.unit).next ≤ t.units.unit_pages
  pub unowned : owner_at t.owners spot ≡ None

-- an owner names a handle, and goes the way of the unit: that of its live pages, and of the target that it is
pub record GoesWith (t : PageTables) (spot : Spot) (x : Owner) : Type 0 where
  pub handle : x.spare.ruh < length t.handles.classes
  pub way : (other : Spot) (y : Owner) → other.unit ≡ spot.unit → owner_at t.owners other ≡ Some y → lane_at t.handles.classes y ≡ lane_at t.handles.classes x
  pub target : (rg : ℕ) (lane : Lane) → IsGroup t.units rg → target_at (passes_at t rg) lane ≡ Some spot.unit → lane ≡ lane_at t.handles.classes x

-- no pass empties the unit; no copy waits for the page, and those that wait for another one of the unit go the way of the owner
pub record IsFreeOfPasses (t : PageTables) (spot : Spot) (x : Owner) : Type 0 where
  pub victim : (rg : ℕ) (pass : Pass) → IsGroup t.units rg → (passes_at t rg).pass ≡ Some pass → spot.unit ≢ pass.victim
  pub apart : (rg : ℕ) (pass : Pass) (copy : Copied) (y : Owner) → IsGroup t.units rg → (passes_at t rg).pass ≡ Some pass → Contains pass.copies copy → owner_at t.owners copy.from ≡ Some y → copy.to ≢ spot
  pub way : (rg : ℕ) (pass : Pass) (copy : Copied) (y : Owner) → IsGroup t.units rg → (passes_at t rg).pass ≡ Some pass → Contains pass.copies copy → owner_at t.owners copy.from ≡ Some y → copy.to.unit ≡ spot.unit → lane_at t.handles.classes y ≡ lane_at t.handles.classes x

-- a page may get this owner
pub record MayFill (t : PageTables) (spot : Spot) (x : Owner) : Type 0 where
  pub page : IsCopyPage t spot
  pub goes : GoesWith t spot x
  pub passes : IsFreeOfPasses t spot x
