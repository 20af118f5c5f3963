-- How all handles and lanes of groups are left without their units.
use Rattle.std.specs.Prelude.{◌≡◌, ◌⊎◌, ℕ, ◌<◌, List, None, Some, length, slice_get}
use Rattle.fdp_base.specs.declared.config.Class.{Class}
use Rattle.fdp_pages.specs.PageTables.{PageTables, passes_at, unit_of}
use Rattle.fdp_pages.specs.Steps.{LeavesUnits}
use Rattle.fdp_passes.specs.declared.lane.Lane.{Lane}
use Rattle.fdp_passes.specs.GroupPasses.{GroupPasses, lane_of, target_at}
use Rattle.fdp_units.specs.declared.state.UnitState.TheVariants.{Closed}
use Rattle.fdp_units.specs.UnitTable.{UnitTable, cut_of, is_worn_at, state_at, unit_at}

-- a unit that was a target of a group is closed
pub record ClosesTarget (passes : GroupPasses) (old new : UnitTable) (unit : ℕ) : Type 0 where
  pub lane : Lane
  pub target : target_at passes lane ≡ Some unit
  pub closed : unit_at new unit ≡ record (unit_at old unit) { state = Closed }

-- units are closed that were targets of a group, and nothing else changes; among them are those of the lanes of the first handles
pub record ClosesTargets (passes : GroupPasses) (classes : List Class) (count : ℕ) (old new : UnitTable) : Type 0 where
  pub units : (unit : ℕ) → (unit_at new unit ≡ unit_at old unit) ⊎ ClosesTarget passes old new unit
  pub closed : (ruh unit : ℕ) (class : Class) → ruh < count → slice_get classes ruh ≡ Some class → target_at passes (lane_of class ruh) ≡ Some unit → state_at new unit ≡ Closed
  pub cut : cut_of new ≡ cut_of old
  pub worn : is_worn_at new ≡ is_worn_at old

-- the first handles have no unit in a group any more
pub record LeavesHandles (old new : PageTables) (rg count : ℕ) : Type 0 where
  pub leaves : LeavesUnits old new
  pub none : (ruh : ℕ) → ruh < count → unit_of new rg ruh ≡ None
  pub rest : new.handles ≡ record old.handles { rows = new.handles.rows }

-- no lane has a target in a group any more
pub record LeavesTargets (old new : PageTables) (rg : ℕ) : Type 0 where
  pub leaves : LeavesUnits old new
  pub none : (lane : Lane) → target_at (passes_at new rg) lane ≡ None
  pub handles : new.handles ≡ old.handles

-- no handle has a unit in a group any more, and no lane a target
pub record LeavesGroup (old new : PageTables) (rg : ℕ) : Type 0 where
  pub leaves : LeavesUnits old new
  pub units : (ruh : ℕ) → ruh < length old.handles.classes → unit_of new rg ruh ≡ None
  pub targets : (lane : Lane) → target_at (passes_at new rg) lane ≡ None
  pub rest : new.handles ≡ record old.handles { rows = new.handles.rows }

-- so it is in the first groups
pub record LeavesGroups (old new : PageTables) (count : ℕ) : Type 0 where
  pub leaves : LeavesUnits old new
  pub units : (rg ruh : ℕ) → rg < count → ruh < length old.handles.classes → unit_of new rg ruh ≡ None
  pub targets : (rg : ℕ) (lane : Lane) → rg < count → target_at (passes_at new rg) lane ≡ None
  pub rest : new.handles ≡ record old.handles { rows = new.handles.rows }
