-- Images that a stop left: in which data stands apart, and which are safe.
use Rattle.std.proofs.Common.{ℕ, ◌<◌, ◌≤◌, List, ◌++◌, IsTrue, ◌∙◌, ap, arith, append_assoc}
use Rattle.fdp_base.specs.declared.config.DriveConfig.{DriveConfig}
use Rattle.fdp_base.specs.declared.entry.Entry.{Entry}
use Rattle.fdp_durability.proofs.Beginnings.{stands-grown, stands-less}
use Rattle.fdp_flash.specs.declared.cell.Cell.{Cell}
use Rattle.fdp_flash.specs.FlashState.{FlashState}
use Rattle.fdp_flash.specs.Runs.{Runs}
use Rattle.fdp_flash.proofs.Runs.{runs_weakened}
use Rattle.fdp_image.specs.Kept.{StandsForBeginning}
use Rattle.fdp_isolation.specs.Begun.{OpenedApart}
use Rattle.fdp_rules.specs.History.{Found}
use Rattle.fdp_survival.specs.Apart.{StandsApart}
use Rattle.fdp_survival.specs.Safe.{IsSafeImage}

-- ---- one image

-- by a beginning of a history data stands apart by that of each that goes on from it
pub grown-apart : (c : DriveConfig) (f : Found) (es more : List Entry) (from : ℕ) (image : List Cell) → StandsApart c f es from image → StandsApart c f (es ++ more) from image
grown-apart c f es more from image h = record {
  kept = h.kept;
  lost = h.lost ++ more;
  beginning = record { split = ap (λ (xs : List Entry). xs ++ more) h.beginning.split ∙ append_assoc h.kept h.lost more };
  enough = h.enough;
  drive = h.drive;
  read = h.read;
}

-- and where fewer entries are asked for
pub less-apart : (c : DriveConfig) (f : Found) (es : List Entry) (from least : ℕ) (image : List Cell) → least ≤ from → StandsApart c f es from image → StandsApart c f es least image
less-apart c f es from least image fewer h = record {
  kept = h.kept;
  lost = h.lost;
  beginning = h.beginning;
  enough = let low = h.enough in omega (arith, fewer, low);
  drive = h.drive;
  read = h.read;
}

pub image-grown : (c : DriveConfig) (f : Found) (opened : List Cell) (es more : List Entry) (firm from : ℕ) (image : List Cell) → IsSafeImage c f opened es firm from image → IsSafeImage c f opened (es ++ more) firm from image
image-grown c f opened es more firm from image h = record { stands = stands-grown c f es more firm image h.stands; apart = λ apart. grown-apart c f es more from image (h.apart apart) }

pub image-less : (c : DriveConfig) (f : Found) (opened : List Cell) (es : List Entry) (most firm from least : ℕ) (image : List Cell) → firm ≤ most → least ≤ from → IsSafeImage c f opened es most from image → IsSafeImage c f opened es firm least image
image-less c f opened es most firm from least image fewer later h = record { stands = stands-less c f es most firm image fewer h.stands; apart = λ apart. less-apart c f es from least image later (h.apart apart) }

-- ---- the images of a run

-- what holds of each image of a run, by what it holds of, and by the moment of the image
pub runs-beside : (old now : FlashState) (Image Other : ℕ → List Cell → Type 0) → Runs old now Image
    → (IsTrue old.told → (m : ℕ) (image : List Cell) → old.moment < m → m ≤ now.moment → now.during m image → Image m image → Other m image) → Runs old now Other
runs-beside old now Image Other p other = record {
  geometry = p.geometry;
  reliable = p.reliable;
  told = p.told;
  tells_images = p.tells_images;
  later = p.later;
  faults = p.faults;
  no_fault = p.no_fault;
  programs = p.programs;
  images = λ told m image above most during. other told m image above most during (p.images told m image above most during);
  earlier = p.earlier;
  kept = p.kept;
  listed_before = p.listed_before;
  listed = p.listed;
}

-- images that stand for a beginning are safe, where data stands apart in them
pub run-safe : (c : DriveConfig) (f : Found) (opened : List Cell) (es : List Entry) (firm from : ℕ) (old now : FlashState) → Runs old now (λ m image. StandsForBeginning c f es firm image)
    → (IsTrue old.told → OpenedApart c f opened → (m : ℕ) (image : List Cell) → old.moment < m → m ≤ now.moment → now.during m image → StandsApart c f es from image) → Runs old now (λ m image. IsSafeImage c f opened es firm from image)
run-safe c f opened es firm from old now run apart =
    runs-beside old now (λ m image. StandsForBeginning c f es firm image) (λ m image. IsSafeImage c f opened es firm from image) run
    (λ told m image above most during stands. record { stands = stands; apart = λ was. apart told was m image above most during })

pub run-grown : (c : DriveConfig) (f : Found) (opened : List Cell) (es more : List Entry) (firm from : ℕ) (old now : FlashState) → Runs old now (λ m image. IsSafeImage c f opened es firm from image) → Runs old now (λ m image. IsSafeImage c f opened (es ++ more) firm from image)
run-grown c f opened es more firm from old now run =
    runs_weakened old now (λ m image. IsSafeImage c f opened es firm from image) (λ m image. IsSafeImage c f opened (es ++ more) firm from image) run
    (λ told m image above most safe. image-grown c f opened es more firm from image safe)

pub run-less : (c : DriveConfig) (f : Found) (opened : List Cell) (es : List Entry) (most firm from least : ℕ) (old now : FlashState) → firm ≤ most → least ≤ from → Runs old now (λ m image. IsSafeImage c f opened es most from image) → Runs old now (λ m image. IsSafeImage c f opened es firm least image)
run-less c f opened es most firm from least old now fewer later run =
    runs_weakened old now (λ m image. IsSafeImage c f opened es most from image) (λ m image. IsSafeImage c f opened es firm least image) run
    (λ told m image above last safe. image-less c f opened es most firm from least image fewer later safe)
