-- Which images are those of a drive: each part is one that the drive would save where it stands.
use Rattle.std.specs.Prelude.{◌≡◌, IsTrue, List, None, length}
use Rattle.std.specs.List.{concat}
use Rattle.fdp_base.specs.declared.config.DriveConfig.{DriveConfig}
use Rattle.fdp_flash.specs.declared.cell.Cell.{Cell}
use Rattle.fdp_image.specs.Areas.{Sealed}
use Rattle.fdp_image.specs.Checkpoint.{said_by_checkpoint}
use Rattle.fdp_image.specs.Reading.{Reading}
use Rattle.fdp_image.specs.Reads.{is_checkpoint_of}
use Rattle.fdp_state.specs.fdp_replay.Replay.{IsReplayed}
use Rattle.fdp_snapshot.specs.Reading.{summary_in}
use Rattle.fdp_image.specs.Fits.{fits}
use Rattle.fdp_recovery.specs.Blocks.{AreKept}
use Rattle.fdp_image.specs.BadFields.{bad_field}

-- the checkpoint of an area is that of a drive of this configuration, and says what such a drive saves
pub record IsSoundCheckpoint (c : DriveConfig) (z : Sealed) : Type 0 where
  pub whole : IsTrue (is_checkpoint_of c z)
  pub fields : bad_field c (summary_in (concat z.checkpoint)) ≡ None

-- an area says this: its checkpoint is sound, and each change of its journal fits what is said before it
pub record IsSoundArea (c : DriveConfig) (z : Sealed) (r : Reading) : Type 0 where
  pub checkpoint : IsSoundCheckpoint c z
  pub journal : IsReplayed fits c z.journal (length z.journal) (said_by_checkpoint (concat z.checkpoint)) r

-- an image with this current area says this, and each block is kept on its page
pub record IsSoundImage (c : DriveConfig) (cells : List Cell) (z : Sealed) (r : Reading) : Type 0 where
  pub area : IsSoundArea c z r
  pub blocks : AreKept c cells r
