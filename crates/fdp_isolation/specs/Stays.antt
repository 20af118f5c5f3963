-- What stays isolated in some cells as it was in others.
use Rattle.std.specs.Prelude.{◌≡◌, List}
use Rattle.fdp_base.specs.declared.config.DriveConfig.{DriveConfig}
use Rattle.fdp_base.specs.declared.entry.Entry.{Entry}
use Rattle.fdp_flash.specs.declared.cell.Cell.{Cell}
use Rattle.fdp_isolation.specs.Isolated.{IsIsolatedDrive}
use Rattle.fdp_rules.specs.PlainState.{PlainState}
use Rattle.fdp_rules.specs.Point.{Point}

-- the same configuration is in force, with the same generation
pub record IsSameSetting (old new : PlainState) : Type 0 where
  pub enabled : new.enabled ≡ old.enabled
  pub index : new.index ≡ old.index
  pub generation : new.generation ≡ old.generation

-- what is isolated in some cells is so in others, by whichever history with this setting in force
abbrev pub StaysIsolated : DriveConfig → PlainState → List Cell → List Cell → Type 0
StaysIsolated c s old new = (p : Point) (es : List Entry) → IsSameSetting s p.state → IsIsolatedDrive c p es old → IsIsolatedDrive c p es new
