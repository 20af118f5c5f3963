-- What is told of the current area: the state that it says, or what shows that it says none.
use Rattle.std.specs.Prelude.{◌≡◌, ◌⊎◌, ℕ, Some, None, Result, Ok, Err}
use Rattle.std.specs.List.{concat}
use Rattle.fdp_base.specs.declared.config.DriveConfig.{DriveConfig}
use Rattle.fdp_base.specs.declared.config.Geometry.{Geometry}
use Rattle.fdp_checkpoint.specs.Pages.{IsBadIn}
use Rattle.fdp_image.specs.Areas.{Sealed}
use Rattle.fdp_image.specs.Checkpoint.{reading_of_state}
use Rattle.fdp_snapshot.specs.declared.state.State.{State}
use Rattle.fdp_snapshot.specs.Reading.{state_in}
use Rattle.fdp_recovery.specs.declared.opened.OpenFault.{OpenFault}
use Rattle.fdp_recovery.specs.declared.opened.OpenFault.TheVariants as faults
use Rattle.fdp_recovery.specs.Bad.{HasBadField, IsBadRecord}
use Rattle.fdp_recovery.specs.Keys.{keys_of_area, other_key}
use Rattle.fdp_recovery.specs.Sound.{IsSoundArea, IsSoundCheckpoint}

-- no key differs from the flash and from this area
pub record HasSameKeys (c : DriveConfig) (g : Geometry) (z : Sealed) : Type 0 where
  pub same : other_key c g (keys_of_area g.block z) ≡ None

-- the checkpoint of an area is sound, and says this state
pub record SaysState (c : DriveConfig) (g : Geometry) (z : Sealed) (s : State) : Type 0 where
  pub keys : HasSameKeys c g z
  pub sound : IsSoundCheckpoint c z
  pub state : s ≡ state_in (concat z.checkpoint)

-- the pages of an area say no checkpoint of a drive, as this page shows
pub record SaysNoCheckpoint (c : DriveConfig) (g : Geometry) (area : ℕ) (z : Sealed) (page : ℕ) : Type 0 where
  pub keys : HasSameKeys c g z
  pub bad : IsBadIn g area z.stamp.version (concat z.checkpoint) page ⊎ HasBadField c area z page

-- what is told of the checkpoint of an area
abbrev pub TellsCheckpoint : DriveConfig → Geometry → ℕ → Sealed → Result State OpenFault → Type 0
TellsCheckpoint c g area z (Ok s) = SaysState c g z s
TellsCheckpoint c g area z (Err (faults.OtherConfig key)) = other_key c g (keys_of_area g.block z) ≡ Some key
TellsCheckpoint c g area z (Err faults.NotADrive) = ⊥
TellsCheckpoint c g area z (Err (faults.BadImage page)) = SaysNoCheckpoint c g area z page
TellsCheckpoint c g area z (Err (faults.FlashFault moment)) = Unit {0}
TellsCheckpoint c g area z (Err faults.Spent) = ⊥
TellsCheckpoint c g area z (Err faults.NoMemory) = Unit {0}

-- an area with its journal says this state
pub record SaysSound (c : DriveConfig) (g : Geometry) (z : Sealed) (s : State) : Type 0 where
  pub keys : HasSameKeys c g z
  pub sound : IsSoundArea c z (reading_of_state s)

-- the pages of an area say no state of a drive, as this page shows
pub record SaysNone (c : DriveConfig) (g : Geometry) (area : ℕ) (z : Sealed) (page : ℕ) : Type 0 where
  pub keys : HasSameKeys c g z
  pub bad : IsBadIn g area z.stamp.version (concat z.checkpoint) page ⊎ HasBadField c area z page ⊎ IsBadRecord c area z page

-- what is told of an area
abbrev pub TellsArea : DriveConfig → Geometry → ℕ → Sealed → Result State OpenFault → Type 0
TellsArea c g area z (Ok s) = SaysSound c g z s
TellsArea c g area z (Err (faults.OtherConfig key)) = other_key c g (keys_of_area g.block z) ≡ Some key
TellsArea c g area z (Err faults.NotADrive) = ⊥
TellsArea c g area z (Err (faults.BadImage page)) = SaysNone c g area z page
TellsArea c g area z (Err (faults.FlashFault moment)) = Unit {0}
TellsArea c g area z (Err faults.Spent) = ⊥
TellsArea c g area z (Err faults.NoMemory) = Unit {0}
