-- Which images an opening takes.
use Rattle.std.specs.Prelude.{◌≡◌, ℕ, true, List, Some, None}
use Rattle.fdp_base.specs.declared.config.DriveConfig.{DriveConfig}
use Rattle.fdp_base.specs.Placement.{geometry_of}
use Rattle.fdp_flash.specs.declared.cell.Cell.{Cell}
use Rattle.fdp_image.specs.Areas.{Sealed, current_area}
use Rattle.fdp_image.specs.Reading.{Reading}
use Rattle.fdp_image.specs.Reads.{is_spent}
use Rattle.fdp_recovery.specs.Keys.{keys_on, other_key}
use Rattle.fdp_recovery.specs.Opened.{IsBadImage, IsFresh, IsNoDrive, IsSpent}

-- two configurations are of one drive: they give one value to each key that is compared
pub record HasSameKeys (c d : DriveConfig) : Type 0 where
  pub block : d.block ≡ c.block
  pub unit_pages : d.unit_pages ≡ c.unit_pages
  pub groups : d.groups ≡ c.groups
  pub units : d.units ≡ c.units
  pub area_units : d.area_units ≡ c.area_units
  pub queues : d.queues ≡ c.queues
  pub blocks_per_command : d.blocks_per_command ≡ c.blocks_per_command
  pub fdp : d.fdp ≡ c.fdp

-- an image is used up: a run might bring what it says, or the epoch of its current area, past the last value
pub record IsUsedUp (c : DriveConfig) (cells : List Cell) (r : Reading) : Type 0 where
  pub area : ℕ
  pub z : Sealed
  pub current : current_area (geometry_of c) cells ≡ Some (area, z)
  pub spent : is_spent r z.stamp.epoch ≡ true

-- An opening takes an image that says this: no key differs; without a sealed area it is that of a new drive, and with one no page of it is bad;
-- it is told to be spent only where it is used up.
pub record IsTakenImage (c : DriveConfig) (cells : List Cell) (r : Reading) : Type 0 where
  pub keys : other_key c (geometry_of c) (keys_on (geometry_of c) cells) ≡ None
  pub fresh : current_area (geometry_of c) cells ≡ None → IsFresh c (geometry_of c) cells
  pub drive : IsNoDrive c (geometry_of c) cells → ⊥
  pub pages : (page : ℕ) → IsBadImage c (geometry_of c) cells page → ⊥
  pub spent : IsSpent c (geometry_of c) cells → IsUsedUp c cells r
