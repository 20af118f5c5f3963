-- A loaded state.
use Rattle.std.specs.Prelude.{◌≡◌, ℕ, ◌≤◌, IsTrue, length}
use Rattle.std.specs.List.{list_all}
use Rattle.fdp_base.specs.declared.config.DriveConfig.{DriveConfig}
use Rattle.fdp_base.specs.Config.{IsInRange}
use Rattle.fdp_base.specs.Placement.{handle_count}
use Rattle.fdp_image.specs.BadFields.{HasKnownRows}
use Rattle.fdp_image.specs.Checkpoint.{reading_of_state}
use Rattle.fdp_image.specs.CheckpointFields.{same_keys}
use Rattle.fdp_image.specs.Reading.{Reading, size_in}
use Rattle.fdp_snapshot.specs.declared.keys.Keys.{Keys}
use Rattle.fdp_snapshot.specs.declared.state.State.{State}
use Rattle.fdp_snapshot.specs.Checkpoint.{IsState}
use Rattle.fdp_outline.specs.Outline.{IsOutlineOf}
use Rattle.fdp_state.specs.Good.{IsGood, IsSayable}
use Rattle.fdp_state.specs.declared.parts.Parts.{Parts}
use Rattle.fdp_state.specs.Parts.{IsSound, listed, reading_of}

-- the configuration of the drive, and its state
pub record Loaded : Type 0 where
  pub config : DriveConfig
  pub parts : Parts

-- what it says, as an image does
abbrev pub said_by : Loaded → Reading
said_by s = reading_of s.parts

-- the sizes are those of a drive of the configuration
abbrev pub NamesSizes : DriveConfig → Keys → Type 0
NamesSizes c k = IsTrue (list_all (λ same. same) (same_keys c k))

-- the state is sound, says what a drive of the configuration may say, and a checkpoint has room for its pages; its outline is one of what it
-- says
pub record IsLoaded (c : DriveConfig) (s : Parts) : Type 0 where
  pub config : IsInRange c
  pub sound : IsSound s
  pub good : IsGood c (reading_of s)
  pub sayable : IsSayable (reading_of s)
  pub outline : IsOutlineOf c (reading_of s) s.outline

-- a state of a drive of this configuration: a checkpoint has room for it, it names the sizes of the drive, says what such a drive may
-- say, and its rows are those of such a drive
pub record IsDriveState (c : DriveConfig) (s : State) : Type 0 where
  pub writable : IsState s
  pub keys : NamesSizes c s.summary.keys
  pub good : IsGood c (reading_of_state s)
  pub rows : HasKnownRows (handle_count c s.summary.enabled s.summary.index) s.summary

-- a state that can be loaded: sixteen places for namespaces, each with a page list as long as the namespace has blocks; at most 32
-- events of each class
pub record IsLoadable (s : State) : Type 0 where
  pub spaces : length s.summary.spaces ≡ 16
  pub lists : length s.pages ≡ 16
  pub sizes : (nsid : ℕ) → listed s.pages nsid ≡ size_in (reading_of_state s) nsid
  pub host_events : length s.summary.host_events ≤ 32
  pub controller_events : length s.summary.controller_events ≤ 32
