-- The pages of data of a drive: whose they are, which units the handles fill, and what relocation does with them.
use Rattle.std.specs.Prelude.{ℕ, Bool, List, [], Option, None, is_some, replicate, slice_index_or}
use Rattle.fdp_base.specs.declared.config.Class.TheVariants.{Initial}
use Rattle.fdp_base.specs.declared.entry.Copied.{Copied}
use Rattle.fdp_collector.specs.Ready.{Relocation}
use Rattle.fdp_handles.specs.HandleTable.{HandleTable, reference_at}
use Rattle.fdp_owners.specs.OwnerTable.{OwnerTable}
use Rattle.fdp_passes.specs.Due.{copies_in}
use Rattle.fdp_passes.specs.GroupPasses.{GroupPasses, lane_of, target_at}
use Rattle.fdp_units.specs.UnitTable.{UnitTable}

pub record PageTables : Type 0 where
  pub handles : HandleTable
  pub units : UnitTable
  pub owners : OwnerTable
  -- by group
  pub passes : List GroupPasses

-- a group that is not there has neither a target nor a pass
abbrev pub no_passes : GroupPasses
no_passes = record { unit_pages = 0; targets = []; pass = None }

-- a group of units of so many pages with neither a target nor a pass
abbrev pub no_targets : ℕ → GroupPasses
no_targets unit_pages = record { unit_pages = unit_pages; targets = replicate 17 None; pass = None }

-- the relocation of a group
abbrev pub passes_at : PageTables → ℕ → GroupPasses
passes_at t rg = slice_index_or t.passes rg no_passes

-- the relocation of a group, with the units of all groups
abbrev pub relocation_at : PageTables → ℕ → Relocation
relocation_at t rg = record { passes = passes_at t rg; units = t.units }

-- a pass is under way in a group
abbrev pub is_under_way : PageTables → ℕ → Bool
is_under_way t rg = is_some (passes_at t rg).pass

-- what the pass under way in a group has copied and not moved
abbrev pub copies_at : PageTables → ℕ → List Copied
copies_at t rg = copies_in (passes_at t rg)

-- the unit that a handle fills in a group
abbrev pub unit_of : PageTables → ℕ → ℕ → Option ℕ
unit_of t rg ruh = (reference_at t.handles rg ruh).unit

-- how many pages a handle may still use in its unit, or in its next one
abbrev pub left_of : PageTables → ℕ → ℕ → ℕ
left_of t rg ruh = (reference_at t.handles rg ruh).left

-- the unit that gets copies of the data of a handle in a group
abbrev pub target_of : PageTables → ℕ → ℕ → Option ℕ
target_of t rg ruh = target_at (passes_at t rg) (lane_of (slice_index_or t.handles.classes ruh Initial) ruh)
