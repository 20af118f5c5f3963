-- What the erase of a victim makes of its unit and its group.
use Rattle.std.specs.Prelude.{ℕ, Bool, false}
use Rattle.fdp_base.specs.Numbers.{with_at}
use Rattle.fdp_flash.specs.declared.answer.Wrote.{Wrote}
use Rattle.fdp_flash.specs.declared.answer.Wrote.TheVariants as wrote
use Rattle.fdp_units.specs.declared.state.UnitState.{UnitState}
use Rattle.fdp_units.specs.declared.state.UnitState.TheVariants as states
use Rattle.fdp_units.specs.UnitTable.{UnitTable, group_in, is_worn_at}

-- a unit that was erased is free; one whose erase failed is retired
abbrev pub state_after : Wrote → UnitState
state_after wrote.Done = states.Free
state_after wrote.Failed = states.Retired

-- the group of a unit that was erased is worn no longer
abbrev pub worn_after : UnitTable → ℕ → Wrote → ℕ → Bool
worn_after t unit wrote.Done = with_at (is_worn_at t) (group_in t unit) false
worn_after t unit wrote.Failed = is_worn_at t
