-- Each image that stands for a history opens.
use Rattle.std.proofs.Common.{◌≡◌, ◌⊎◌, ℕ, IsTrue, List, Some, None, sym, subst, ◌∙◌, inl, inr}
use Rattle.fdp_base.specs.declared.config.DriveConfig.{DriveConfig}
use Rattle.fdp_base.specs.declared.entry.Entry.{Entry}
use Rattle.fdp_base.specs.Placement.{geometry_of}
use Rattle.fdp_flash.specs.declared.cell.Cell.{Cell}
use Rattle.fdp_flash.specs.FlashState.{FlashState}
use Rattle.fdp_flash.specs.Runs.{Runs}
use Rattle.fdp_flash.proofs.Runs.{runs_weakened}
use Rattle.fdp_image.specs.Checkpoint.{reading_of_state}
use Rattle.fdp_image.specs.Reading.{Reading}
use Rattle.fdp_image.specs.Reads.{reads_as}
use Rattle.fdp_image.specs.Kept.{IsStopSafe, StandsForBeginning, StandsForKept}
use Rattle.fdp_image.specs.StandsFor.{StandsFor}
use Rattle.fdp_image.specs.Valid.{GoOneWay, IsValid}
use Rattle.fdp_keeper.specs.fdp_recovery.declared.opened.OpenFault.{OpenFault}
use Rattle.fdp_keeper.specs.fdp_recovery.declared.opened.OpenFault.TheVariants as faults
use Rattle.fdp_keeper.specs.fdp_recovery.Opened.{IsBadImage}
use Rattle.fdp_keeper.specs.fdp_recovery.Taken.{IsTakenImage}
use Rattle.fdp_keeper.proofs.fdp_found.fdp_opening.Ways.{none-astray}
use Rattle.fdp_keeper.proofs.fdp_found.fdp_opening.fdp_recovery.SameDrive.{same-drive, with_keys}
use Rattle.fdp_keeper.proofs.fdp_found.fdp_opening.fdp_recovery.Taken.{left-says, taken-with}
use Rattle.fdp_loading.specs.Opens.{LeavesOpen, MayRefuse, Opens}
use Rattle.fdp_loading.specs.Faults.{IsStrayImage, TellsFault}
use Rattle.fdp_rules.specs.History.{Found}
use Rattle.fdp_survival.specs.Safe.{IsSafeImage}

module _ (c d : DriveConfig) (cells : List Cell) (r : Reading) (read : reads_as c cells ≡ Some r) (valid : IsValid c cells r) (ways : GoOneWay c cells r) where
  taken : IsTakenImage (with_keys c d) cells r
  taken = taken-with c d cells r read valid

  -- the blocks of each unit go one way by the other configuration, too
  ways-too : GoOneWay (with_keys c d) cells r
  ways-too = ways

  none-stray : (page : ℕ) → IsStrayImage (with_keys c d) (geometry_of c) cells page → ⊥
  none-stray page stray =
      let l = stray.found.left in
      let same : reading_of_state stray.state ≡ r = left-says c d cells r stray.state stray.area stray.epoch read l in
      none-astray (with_keys c d) cells (reading_of_state stray.state) page l.sound.blocks (subst (GoOneWay (with_keys c d) cells) (sym same) ways-too) stray.astray

  none-bad : (page : ℕ) → IsBadImage (with_keys c d) (geometry_of c) cells page ⊎ IsStrayImage (with_keys c d) (geometry_of c) cells page → ⊥
  none-bad page (inl bad) = taken.pages page bad
  none-bad page (inr stray) = none-stray page stray

  may-refuse : (fault : OpenFault) → TellsFault (with_keys c d) (geometry_of c) cells fault → MayRefuse (with_keys c d) cells r fault
  may-refuse (faults.OtherConfig key) other = let e : None ≡ Some key = sym taken.keys ∙ other in cc
  may-refuse faults.NotADrive none = taken.drive none
  may-refuse (faults.BadImage page) bad = none-bad page bad
  may-refuse (faults.FlashFault moment) tells = tt
  may-refuse faults.Spent spent = taken.spent spent
  may-refuse faults.NoMemory tells = tt

pub image-opens : (c : DriveConfig) (cells : List Cell) (r : Reading) → reads_as c cells ≡ Some r → IsValid c cells r → GoOneWay c cells r → Opens c cells
image-opens c cells r read valid ways = record {
  reading = r;
  read = read;
  faults = λ d same. subst (λ (x : DriveConfig). (fault : OpenFault) → TellsFault x (geometry_of x) cells fault → MayRefuse x cells r fault) (sym (same-drive c d same)) (may-refuse c d cells r read valid ways);
}

-- An image that stands for a history opens.
pub standing-opens : (c : DriveConfig) (f : Found) (cells : List Cell) (es : List Entry) → StandsFor c f cells es → Opens c cells
standing-opens c f cells es stands = image-opens c cells stands.reading stands.read stands.valid stands.ways

-- So does one that stands for a beginning of it.
pub beginning-opens : (c : DriveConfig) (f : Found) (es : List Entry) (least : ℕ) (cells : List Cell) → StandsForBeginning c f es least cells → Opens c cells
beginning-opens c f es least cells h = standing-opens c f cells h.kept h.stands

-- What is safe of stops leaves images that open.
pub safe-opens : (c : DriveConfig) (f : Found) (es : List Entry) (before after : ℕ) (old new : FlashState) → IsStopSafe c f es before after old new → LeavesOpen c old new
safe-opens c f es before after old new h = record {
  images =
      runs_weakened old new (λ m image. StandsForKept c f es before m image) (λ m image. Opens c image) h.images
      (λ told m image above most kept. beginning-opens c f es before image kept.beginning);
  cells = λ told. beginning-opens c f es after new.cells (h.cells told);
}

-- And so do images that are safe, and cells.
pub images-open : (c : DriveConfig) (f : Found) (opened : List Cell) (es : List Entry) (firm from least : ℕ) (old new : FlashState) → Runs old new (λ m image. IsSafeImage c f opened es firm from image) → (IsTrue new.told → StandsForBeginning c f es least new.cells)
    → LeavesOpen c old new
images-open c f opened es firm from least old new run cells = record {
  images =
      runs_weakened old new (λ m image. IsSafeImage c f opened es firm from image) (λ m image. Opens c image) run
      (λ told m image above most safe. beginning-opens c f es firm image safe.stands);
  cells = λ told. beginning-opens c f es least new.cells (cells told);
}
