-- A state that a journal can be read into.
use Rattle.std.specs.Prelude.{◌≡◌, Result, Ok, Err}
use Rattle.fdp_base.specs.declared.config.DriveConfig.{DriveConfig}
use Rattle.fdp_base.specs.declared.config.Geometry.{Geometry}
use Rattle.fdp_base.specs.Placement.{geometry_of}
use Rattle.fdp_snapshot.specs.declared.state.State.{State}
use Rattle.fdp_state.specs.Loaded.{IsDriveState, IsLoadable}
use Rattle.fdp_recovery.specs.declared.opened.OpenFault.{OpenFault}
use Rattle.fdp_recovery.specs.declared.opened.OpenFault.TheVariants as faults

-- the flash is cut as the configuration asks, and the state is one of its drive, and can be loaded
pub record IsReady (c : DriveConfig) (g : Geometry) (s : State) : Type 0 where
  pub cut : g ≡ geometry_of c
  pub state : IsDriveState c s
  pub loadable : IsLoadable s

-- an answer of a function that makes no call of the flash
abbrev pub NeverFails : {X : Type 0} → Result X OpenFault → Type 0
NeverFails (Ok x) = Unit {0}
NeverFails (Err (faults.OtherConfig key)) = Unit {0}
NeverFails (Err faults.NotADrive) = Unit {0}
NeverFails (Err (faults.BadImage page)) = Unit {0}
NeverFails (Err (faults.FlashFault moment)) = ⊥
NeverFails (Err faults.Spent) = Unit {0}
NeverFails (Err faults.NoMemory) = Unit {0}
