-- Why a file is taken or refused: what its length and the read of its head say.
use Rattle.std.specs.Prelude.{◌≡◌, ℕ, ◌<◌, ◌≤◌, Option, Some, None, Result, Ok, Err}
use Rattle.std.specs.declared.io.Error.{Error}
use Rattle.fdp_base.specs.declared.config.Geometry.{Geometry}
use Rattle.fdp_flash_file.specs.declared.take.TakeError.{TakeError}
use Rattle.fdp_flash_file.specs.declared.take.TakeError.TheVariants as causes
use Rattle.fdp_flash_file.specs.Places.{file_size}

-- the head tells this geometry, and all pages of the flash are there
pub record IsWhole (length : ℕ) (head : Result (Option Geometry) Error) (geometry : Geometry) : Type 0 where
  pub told : head ≡ Ok (Some geometry)
  pub long : file_size geometry ≤ length

-- the head tells a geometry, and the file ends before the last page of that flash
pub record IsShort (length : ℕ) (head : Result (Option Geometry) Error) : Type 0 where
  pub geometry : Geometry
  pub told : head ≡ Ok (Some geometry)
  pub short : length < file_size geometry

-- the read of the head failed
pub record FailsToRead (head : Result (Option Geometry) Error) : Type 0 where
  pub error : Error
  pub failed : head ≡ Err error

-- why it is refused; for want of memory it is not refused here
abbrev pub IsCause : ℕ → Result (Option Geometry) Error → TakeError → Type 0
IsCause length head causes.Failed = FailsToRead head
IsCause length head causes.NotFlash = head ≡ Ok None
IsCause length head causes.CutShort = IsShort length head
IsCause length head causes.NoMemory = ⊥
