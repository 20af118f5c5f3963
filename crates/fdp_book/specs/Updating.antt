-- Updates of handles, and another placement setting, in the tables beside the outline.
use Rattle.std.specs.Prelude.{◌≡◌, ℕ, ◌<◌, Bool, Contains, List, fold, length}
use Rattle.fdp_base.specs.declared.config.DriveConfig.{DriveConfig}
use Rattle.fdp_base.specs.Config.{IsValidConfig}
use Rattle.fdp_base.specs.Placement.{classes_of}
use Rattle.fdp_book.specs.declared.tables.Tables.{Tables}
use Rattle.fdp_handles.specs.HandleTable.{reference_at}
use Rattle.fdp_outline.specs.Handles.{handles_at}
use Rattle.fdp_readings.specs.fdp_pages.Steps.{HasNoOwner, LeavesUnits, SetsClasses}
use Rattle.fdp_rules.specs.Effect.{updated_by}
use Rattle.fdp_rules.specs.PlainState.{PlainState}
use Rattle.fdp_rules.specs.Room.{handles_of}

-- the pages have each group, and each handle of the namespace
pub record CanUpdate (c : DriveConfig) (t : Tables) (nsid : ℕ) : Type 0 where
  pub config : IsValidConfig c
  pub groups : c.groups ≡ length t.pages.units.groups
  pub handles : (ruh : ℕ) → Contains (handles_at t.outline nsid) ruh → ruh < length t.pages.handles.classes

-- The handles that these placement identifiers name for a namespace are updated, one after another: each is left without its unit where that
-- is partly written. All else stays
pub record Updates (c : DriveConfig) (old new : Tables) (nsid : ℕ) (pids : List ℕ) : Type 0 where
  pub leaves : LeavesUnits old.pages new.pages
  pub references : (s : PlainState) → handles_of s nsid ≡ handles_at old.outline nsid → c.unit_pages ≡ old.pages.handles.unit_pages → reference_at new.pages.handles ≡ fold (updated_by c s nsid) (reference_at old.pages.handles) pids
  pub handles : new.pages.handles ≡ record old.pages.handles { rows = new.pages.handles.rows }
  pub passes : new.pages.passes ≡ old.pages.passes
  pub rest : new ≡ record old { pages = new.pages }

-- the pages may know of another placement setting: none has an owner
pub record CanSet (c : DriveConfig) (t : Tables) (set_index : ℕ) : Type 0 where
  pub config : IsValidConfig c
  pub index : set_index < length c.fdp
  pub unowned : HasNoOwner t.pages

-- The pages know of another placement setting: there are its handles, none with a unit, and no target. All else stays
pub record SetsTables (c : DriveConfig) (enable : Bool) (index : ℕ) (old new : Tables) : Type 0 where
  pub pages : SetsClasses old.pages new.pages (classes_of c enable index)
  pub rest : new ≡ record old { pages = new.pages }
