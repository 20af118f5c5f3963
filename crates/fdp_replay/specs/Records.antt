-- One page of a journal, applied.
use Rattle.std.specs.Prelude.{◌≡◌, ℕ, false, IsTrue, List, Some}
use Rattle.fdp_base.specs.declared.config.DriveConfig.{DriveConfig}
use Rattle.fdp_base.specs.declared.entry.Totals.{Totals}
use Rattle.fdp_records.specs.declared.change.Change.{Change}
use Rattle.fdp_image.specs.Applied.{with_changes}
use Rattle.fdp_image.specs.Fits.{Fitting, all_fit}
use Rattle.fdp_image.specs.Reading.{Reading}
use Rattle.fdp_image.specs.Reads.{told_by}

-- the bytes tell changes that fit one after another, and what was said before is said with them
pub record IsTaken (fits : Fitting) (c : DriveConfig) (bytes : List ℕ) (old new : Reading) : Type 0 where
  pub changes : List (Change × Totals)
  pub told : told_by bytes ≡ Some changes
  pub fit : IsTrue (all_fit fits c old changes)
  pub reading : new ≡ with_changes c old changes

-- the bytes tell changes of which one does not fit what was said before it
pub record IsUnfit (fits : Fitting) (c : DriveConfig) (bytes : List ℕ) (old : Reading) : Type 0 where
  pub changes : List (Change × Totals)
  pub told : told_by bytes ≡ Some changes
  pub unfit : all_fit fits c old changes ≡ false
