-- Which data units of a group relocation can have: those that are free, and those without a live page.
use Rattle.std.specs.Prelude.{◌≡◌, ℕ, ◌+◌, ◌*◌, Bool, IsTrue, ◌&&◌, ◌||◌, ◌==◌}
use Rattle.fdp_base.specs.Numbers.{count_below}
use Rattle.fdp_units.specs.declared.data_unit.DataUnit.{DataUnit}
use Rattle.fdp_units.specs.DataUnits.{is_closed, is_free, is_target}
use Rattle.fdp_units.specs.UnitTable.{IsUnit, UnitTable, group_in, unit_at}

-- a unit is free
abbrev pub is_free_unit : DataUnit → Bool
is_free_unit x = is_free x.state

-- a unit is free, or closed without a live page, so that one erase frees it
abbrev pub is_idle : DataUnit → Bool
is_idle x = is_free x.state || is_closed x.state && (x.live == 0)

-- a unit is free, or without a live page closed or a target
abbrev pub is_spare : DataUnit → Bool
is_spare x = is_free x.state || (is_closed x.state || is_target x.state) && (x.live == 0)

-- how many units of a group pass a test
abbrev pub units_where : UnitTable → ℕ → (DataUnit → Bool) → ℕ
units_where t rg test = count_below t.group_units (λ i. test (unit_at t (rg * t.group_units + i)))

-- each unit of a group passes a test
abbrev pub EachUnit : UnitTable → ℕ → (DataUnit → Bool) → Type 0
EachUnit t rg test = (unit : ℕ) → IsUnit t unit → group_in t unit ≡ rg → IsTrue (test (unit_at t unit))
