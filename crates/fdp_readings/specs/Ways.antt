-- Blocks that go one way in each unit.
use Rattle.std.specs.Prelude.{◌≡◌, ℕ, IsTrue, Some}
use Rattle.fdp_base.specs.declared.config.DriveConfig.{DriveConfig}
use Rattle.fdp_base.specs.declared.entry.Spot.{Spot}
use Rattle.fdp_image.specs.Valid.{is_kept_apart}
use Rattle.fdp_readings.specs.Drawn.{drawn}
use Rattle.fdp_rules.specs.PlainState.{Block}
use Rattle.fdp_rules.specs.Point.{Point}

-- the blocks that stand in a unit go one way: where one is of a persistently isolated handle, all are of that one
abbrev pub StandOneWay : DriveConfig → Point → Type 0
StandOneWay c p =
    (nsid lba other_nsid other_lba : ℕ) (x y : Block) (spot other : Spot)
    → p.state.blocks nsid lba ≡ Some x → p.trail.site x.page ≡ Some spot → p.state.blocks other_nsid other_lba ≡ Some y → p.trail.site y.page ≡ Some other
    → spot.unit ≡ other.unit → IsTrue (is_kept_apart c (drawn c p) x.ruh) → y.ruh ≡ x.ruh
