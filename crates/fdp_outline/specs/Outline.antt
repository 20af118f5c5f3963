-- The outline of a drive: what a checkpoint says beside the pages of the blocks.
use Rattle.std.specs.Prelude.{◌≡◌, IsTrue, All, []}
use Rattle.std.specs.List.{list_all}
use Rattle.fdp_base.specs.declared.config.DriveConfig.{DriveConfig}
use Rattle.fdp_base.specs.Placement.{handle_count}
use Rattle.fdp_snapshot.specs.declared.state.Summary.{Summary}
use Rattle.fdp_snapshot.specs.Events.{IsPlain}
use Rattle.fdp_snapshot.specs.Fixed.{IsSummary}
use Rattle.fdp_image.specs.BadFields.{HasKnownRows}
use Rattle.fdp_image.specs.Checkpoint.{reading_of_state}
use Rattle.fdp_image.specs.CheckpointFields.{same_keys}
use Rattle.fdp_image.specs.Reading.{Reading}

-- what an outline says, with no page of any block
abbrev pub said_by : Summary → Reading
said_by s = reading_of_state (record { summary = s; pages = [] })

-- a checkpoint has room for what an outline says
pub record IsWritable (s : Summary) : Type 0 where
  pub summary : IsSummary s
  pub host_events : All IsPlain s.host_events
  pub controller_events : All IsPlain s.controller_events

-- An outline is that of what an image says: it names the sizes of the drive, and says the same, but for the totals and the pages of the
-- blocks; its masks are of kinds and handles that there are, and its events stand by class.
pub record IsOutlineOf (c : DriveConfig) (r : Reading) (s : Summary) : Type 0 where
  pub sizes : IsTrue (list_all (λ same. same) (same_keys c s.keys))
  pub says : record (said_by s) { totals = r.totals; pages = r.pages } ≡ r
  pub rows : HasKnownRows (handle_count c s.enabled s.index) s
