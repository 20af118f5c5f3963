-- Whether the groups of a drive have room for relocation: no copy finds no free unit then.
use Rattle.std.specs.Prelude.{◌⊎◌, ℕ, ◌≤◌, Bool, true, false, Option, Some, None, option_map}
use Rattle.fdp_book.specs.fdp_pages.PageTables.{PageTables, passes_at}
use Rattle.fdp_passes.specs.GroupPasses.{GroupPasses, Pass}
use Rattle.fdp_units.specs.UnitTable.{IsGroup, UnitTable}
use Rattle.fdp_roominess.specs.Units.{EachUnit, is_idle, is_spare, is_free_unit, units_where}

-- whether the pass under way, if there is one, took a free unit
abbrev pub taken_in : GroupPasses → Option Bool
taken_in p = option_map (λ (pass : Pass). pass.took_unit) p.pass

-- Room in a group without a pass: two units are idle, or all are. With a pass that took no unit: two are free. With one that took a unit: one
-- is free still, and two are spare.
abbrev pub HasRoomWith : Option Bool → UnitTable → ℕ → Type 0
HasRoomWith None t rg = (2 ≤ units_where t rg is_idle) ⊎ EachUnit t rg is_idle
HasRoomWith (Some false) t rg = 2 ≤ units_where t rg is_free_unit
HasRoomWith (Some true) t rg = (1 ≤ units_where t rg is_free_unit) × (2 ≤ units_where t rg is_spare)

-- a group has room
abbrev pub HasRoom : PageTables → ℕ → Type 0
HasRoom t rg = HasRoomWith (taken_in (passes_at t rg)) t.units rg

-- each group has
abbrev pub HaveRoom : PageTables → Type 0
HaveRoom t = (rg : ℕ) → IsGroup t.units rg → HasRoom t rg
