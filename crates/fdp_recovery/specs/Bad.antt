-- The first page that shows an image to be that of no drive.
use Rattle.std.specs.Prelude.{◌≡◌, ◌⊎◌, ℕ, suc, ◌+◌, ◌/◌, IsTrue, List, Some, length}
use Rattle.std.specs.List.{concat}
use Rattle.fdp_base.specs.declared.config.DriveConfig.{DriveConfig}
use Rattle.fdp_base.specs.Placement.{geometry_of}
use Rattle.fdp_checkpoint.specs.Pages.{IsBadIn}
use Rattle.fdp_flash.specs.declared.cell.Cell.{Cell}
use Rattle.fdp_flash.specs.Layout.{first_page}
use Rattle.fdp_image.specs.Areas.{Sealed, area_unit, record_page}
use Rattle.fdp_image.specs.Checkpoint.{said_by_checkpoint}
use Rattle.fdp_image.specs.Reading.{Reading}
use Rattle.fdp_image.specs.Reads.{is_checkpoint_of}
use Rattle.fdp_state.specs.fdp_replay.Replay.{IsBadAt, IsReplayed, IsUnfitAt}
use Rattle.fdp_snapshot.specs.Reading.{summary_in}
use Rattle.fdp_image.specs.Fits.{fits}
use Rattle.fdp_recovery.specs.Blocks.{IsFirstUnkept}
use Rattle.fdp_image.specs.BadFields.{bad_field}
use Rattle.fdp_recovery.specs.Sound.{IsSoundArea, IsSoundCheckpoint}

-- the number in the flash of a page of an area
abbrev pub number_in : DriveConfig → ℕ → ℕ → ℕ
number_in c area page = first_page (geometry_of c) (area_unit (geometry_of c) area) + page

-- the page has the first field of a checkpoint that no drive of the configuration saves so
pub record HasBadField (c : DriveConfig) (area : ℕ) (z : Sealed) (page : ℕ) : Type 0 where
  pub whole : IsTrue (is_checkpoint_of c z)
  pub at : ℕ
  pub field : bad_field c (summary_in (concat z.checkpoint)) ≡ Some at
  pub place : page ≡ number_in c area (at / c.block)

-- the page is the first of the journal that tells no change, or one that does not fit what is said before it
pub record IsBadRecord (c : DriveConfig) (area : ℕ) (z : Sealed) (page : ℕ) : Type 0 where
  pub checkpoint : IsSoundCheckpoint c z
  pub number : ℕ
  pub said : Reading
  pub before : IsReplayed fits c z.journal number (said_by_checkpoint (concat z.checkpoint)) said
  pub bad : IsBadAt z.journal number ⊎ IsUnfitAt fits c z.journal number said
  pub place : page ≡ number_in c area (record_page (length z.checkpoint) z.before number)

-- the page is that of the first block that is not kept on its page
pub record IsBadBlock (c : DriveConfig) (cells : List Cell) (z : Sealed) (page : ℕ) : Type 0 where
  pub said : Reading
  pub area : IsSoundArea c z said
  pub first : IsFirstUnkept c cells said page

-- the first page, of those of the checkpoint, of the journal and then of the blocks, that shows an image with this current area to be that of no drive
abbrev pub IsBadPage : DriveConfig → List Cell → ℕ → Sealed → ℕ → Type 0
IsBadPage c cells area z page =
    IsBadIn (geometry_of c) area z.stamp.version (concat z.checkpoint) page ⊎ HasBadField c area z page ⊎ IsBadRecord c area z page ⊎ IsBadBlock c cells z page
