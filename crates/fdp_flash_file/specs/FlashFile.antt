-- A flash over a file as contracts see it: it tells its geometry and its counts, and nothing of what the file holds.
use Rattle.std.specs.Prelude.{◌≡◌, ℕ, true, false, []}
use Rattle.fdp_base.specs.declared.config.Geometry.{Geometry}
use Rattle.fdp_flash.specs.FlashState.{FlashState, IsWellFormed}
use Rattle.fdp_flash_file.specs.declared.flash_file.FlashFile.{FlashFile}

-- the state of a flash that tells no cells, no images and no calls, and does not promise that no call fails
abbrev pub untold : Geometry → ℕ → ℕ → ℕ → FlashState
untold geometry moment faults programs = record {
  geometry = geometry;
  moment = moment;
  faults = faults;
  programs = programs;
  reliable = false;
  told = false;
  cells = [];
  tells_images = false;
  during = λ m image. ⊥;
  tells_calls = false;
  calls = [];
}

-- what contracts see of a flash over a file
abbrev pub state_of : {S : Type 0} → FlashFile S → FlashState
state_of flash = untold flash.geometry flash.moment flash.faults flash.programs

-- a flash that was just taken: no call was made, and nothing is told
pub record IsTaken (geometry : Geometry) (s : FlashState) : Type 0 where
  pub geometry_is : s.geometry ≡ geometry
  pub moment : s.moment ≡ 0
  pub faults : s.faults ≡ 0
  pub programs : s.programs ≡ 0
  pub told : s.told ≡ false
  pub tells_images : s.tells_images ≡ false
  pub tells_calls : s.tells_calls ≡ false
  pub reliable : s.reliable ≡ false

nothing_told : false ≡ true → ⊥
nothing_told e = cc

pub file_well_formed : {S : Type 0} → (flash : FlashFile S) → IsWellFormed (state_of flash)
file_well_formed flash = record {
  geometry = flash.valid;
  counts = flash.counts;
  size = λ t. absurd (nothing_told t);
  blocks = λ t. absurd (nothing_told t);
  images = λ m image d. absurd d;
  calls = λ t. absurd (nothing_told t);
}
