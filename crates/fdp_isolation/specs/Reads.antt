-- When what an image may read as is isolated.
use Rattle.std.specs.Prelude.{ℕ, IsFalse, List}
use Rattle.fdp_base.specs.declared.config.DriveConfig.{DriveConfig}
use Rattle.fdp_flash.specs.declared.cell.Cell.{Cell}
use Rattle.fdp_image.specs.Isolation.{IsIsolated}
use Rattle.fdp_image.specs.Reading.{Reading}
use Rattle.fdp_image.specs.Roomy.{is_unused}
use Rattle.fdp_image.specs.Valid.{state_in}
use Rattle.fdp_rules.specs.Step.{IsDataUnit}

-- each unit in which a block of a reading stands is isolated, by the configuration that the reading names
abbrev pub ReadsApart : DriveConfig → List Cell → Reading → Type 0
ReadsApart c cells r = (unit : ℕ) → IsDataUnit c unit → IsFalse (is_unused c r unit) → IsIsolated c (state_in c cells r) cells unit
