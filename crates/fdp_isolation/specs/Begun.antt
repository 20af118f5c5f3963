-- What a run finds that keeps its data apart.
use Rattle.std.specs.Prelude.{◌≡◌, ℕ, Contains, List}
use Rattle.fdp_base.specs.declared.config.DriveConfig.{DriveConfig}
use Rattle.fdp_flash.specs.declared.cell.Cell.{Cell}
use Rattle.fdp_image.specs.Isolation.{IsGrouped, IsIsolated}
use Rattle.fdp_rules.specs.History.{Found, FoundBlock, first_state}
use Rattle.fdp_rules.specs.Step.{IsDataUnit}

-- the whole pages of each data unit name its group and one generation; those of a unit where a block was found name the generation in force,
-- and all one handle where one of them names a persistently isolated handle
pub record OpenedApart (c : DriveConfig) (f : Found) (cells : List Cell) : Type 0 where
  pub grouped : IsGrouped c cells
  pub apart : (unit : ℕ) → IsDataUnit c unit → (x : FoundBlock) → Contains f.blocks x → x.spot.unit ≡ unit → IsIsolated c (first_state c f) cells unit
