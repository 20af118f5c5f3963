-- A call over a file began.
use Rattle.std.proofs.Common.{◌≡◌, ℕ, ◌^◌, ◌<◌, ◌≤◌, Bool, true, false, if◌then◌else◌, arith, refl}
use Rattle.fdp_base.specs.Counts.{counted}
use Rattle.fdp_base.specs.declared.config.Geometry.{Geometry}
use Rattle.fdp_flash.specs.FlashState.{Begins}
use Rattle.fdp_flash_file.specs.FlashFile.{untold}

faults_not_fewer : (failed : Bool) (faults faults' : ℕ) → faults < 2 ^ 64 → faults' ≡ (if failed then counted faults else faults) → faults ≤ faults'
faults_not_fewer true faults faults' small e = omega arith
faults_not_fewer false faults faults' small e = omega arith

-- the moment rose by one, the fault of a failed call was counted, and the programs did not fall
pub begun : (g g' : Geometry) (failed : Bool) (m m' faults faults' programs programs' : ℕ) → g' ≡ g → m' ≡ counted m → m < 2 ^ 64 → faults < 2 ^ 64 →
    faults' ≡ (if failed then counted faults else faults) → programs ≤ programs' → Begins (untold g m faults programs) (untold g' m' faults' programs')
begun g g' failed m m' faults faults' programs programs' same moment small_moment small_faults counts more = record {
  geometry = same;
  moment = moment;
  later = omega arith;
  faults = faults_not_fewer failed faults faults' small_faults counts;
  programs = more;
  reliable = refl;
  told = refl;
  tells_images = refl;
  earlier = λ t image early d. d;
  kept = λ t image early d. d;
}

-- programs that were counted after it change nothing else
pub begun_programs : (g g' : Geometry) (m m' faults faults' programs programs' programs'' : ℕ) → Begins (untold g m faults programs) (untold g' m' faults' programs') →
    programs' ≤ programs'' → Begins (untold g m faults programs) (untold g' m' faults' programs'')
begun_programs g g' m m' faults faults' programs programs' programs'' b more = record {
  geometry = b.geometry;
  moment = b.moment;
  later = b.later;
  faults = b.faults;
  programs = omega (arith, b.programs);
  reliable = refl;
  told = refl;
  tells_images = refl;
  earlier = λ t image early d. d;
  kept = λ t image early d. d;
}
