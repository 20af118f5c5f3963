-- Readings that are roomy over any cells: by the blocks alone.
use Rattle.std.specs.Prelude.{◌⊎◌, ℕ, ◌+◌, ◌*◌, ◌<◌, ◌≤◌, IsTrue}
use Rattle.fdp_base.specs.declared.config.DriveConfig.{DriveConfig}
use Rattle.fdp_base.specs.Numbers.{count_below}
use Rattle.fdp_image.specs.Reading.{Reading}
use Rattle.fdp_image.specs.Roomy.{is_unused, is_unused_group}

-- no block stands in two units of each group, or in the group
abbrev pub LeavesRoom : DriveConfig → Reading → Type 0
LeavesRoom c r =
    (rg : ℕ) → rg < c.groups
    → (2 ≤ count_below c.units (λ i. is_unused c r (rg * c.units + i))) ⊎ IsTrue (is_unused_group c r rg)
