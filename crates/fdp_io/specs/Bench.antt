-- What contracts see of a bench.
use Rattle.std.specs.Prelude.{◌≡◌, ℕ, ◌<◌, ◌≤◌, Bool, true, false, IsTrue, List, length, bytes_eq, Option, Some, None, Result, Ok, Err}
use Rattle.fdp_base.specs.declared.config.Geometry.{Geometry}
use Rattle.fdp_base.specs.Counts.{Rose}
use Rattle.fdp_flash.specs.declared.cell.Cell.{Cell}
use Rattle.fdp_flash.specs.Cells.{IsBlankFlash}
use Rattle.fdp_flash.specs.FlashState.{FlashState}
use Rattle.fdp_io.specs.declared.bench.NotTaken.{NotTaken}
use Rattle.fdp_io.specs.declared.bench.NotTaken.TheVariants as refusals
use Rattle.fdp_io.specs.declared.bench.TextRead.{TextRead}
use Rattle.fdp_io.specs.declared.bench.TextRead.TheVariants.{Done, Missing, TooLong, Failed, NoMemory}

-- a flash as it lies on a bench: how it is cut, and what its pages hold
pub record Image : Type 0 where
  pub geometry : Geometry
  pub cells : List Cell

pub record BenchState : Type 0 where
  -- how many calls failed
  pub faults : ℕ
  -- whether the texts and the flashes are told
  pub told : Bool
  -- the text of a name, which counts only where it is told
  pub text : List ℕ → Option (List ℕ)
  -- the flash that lies there under a name, which counts only where it is told
  pub image : List ℕ → Option Image
  -- whether the flash of a name was taken and not given back
  pub is_out : List ℕ → Bool

-- ---- texts

-- whether a read failed
abbrev pub read_failed : TextRead → Bool
read_failed Failed = true
read_failed Done = false
read_failed Missing = false
read_failed TooLong = false
read_failed NoMemory = false

-- the texts are as they were
pub record SameTexts (old new : BenchState) : Type 0 where
  pub told_still : new.told ≡ old.told
  pub texts : new.text ≡ old.text

-- what each answer of a read says
abbrev pub ReadsText : BenchState → BenchState → List ℕ → ℕ → List ℕ → TextRead → Type 0
ReadsText old new name limit bytes Done = (length bytes ≤ limit) × (IsTrue old.told → old.text name ≡ Some bytes)
ReadsText old new name limit bytes Missing = IsTrue old.told → old.text name ≡ None
ReadsText old new name limit bytes TooLong = IsTrue old.told → (text : List ℕ) × (old.text name ≡ Some text) × (limit < length text)
ReadsText old new name limit bytes Failed = Rose old.faults new.faults
ReadsText old new name limit bytes NoMemory = Unit {0}

-- Done puts the text in the place of what was there; after every other answer that is as it was
abbrev pub ReplacesOnDone : List ℕ → List ℕ → TextRead → Type 0
ReplacesOnDone before after Done = Unit {0}
ReplacesOnDone before after Missing = after ≡ before
ReplacesOnDone before after TooLong = after ≡ before
ReplacesOnDone before after Failed = after ≡ before
ReplacesOnDone before after NoMemory = after ≡ before

-- a failed read is counted, and no other
abbrev pub CountsFailedRead : ℕ → ℕ → TextRead → Type 0
CountsFailedRead old new Done = new ≡ old
CountsFailedRead old new Missing = new ≡ old
CountsFailedRead old new TooLong = new ≡ old
CountsFailedRead old new Failed = Rose old new
CountsFailedRead old new NoMemory = new ≡ old

-- ---- flashes

-- the flashes that lie there, and those that are out, are as they were
pub record SameFlashes (old new : BenchState) : Type 0 where
  pub images : new.image ≡ old.image
  pub out : new.is_out ≡ old.is_out

-- the flash of no other name was touched
pub record SameElsewhere (old new : BenchState) (name : List ℕ) : Type 0 where
  pub images : (other : List ℕ) → bytes_eq name other ≡ false → new.image other ≡ old.image other
  pub out : (other : List ℕ) → bytes_eq name other ≡ false → new.is_out other ≡ old.is_out other

-- a flash is the one that lay there, with its own geometry and its cells
pub record IsFlashOf (image : Image) (flash : FlashState) : Type 0 where
  pub geometry_is : flash.geometry ≡ image.geometry
  pub tells : IsTrue flash.told
  pub cells_are : flash.cells ≡ image.cells

-- a flash was made, since there was none: it is cut as was asked, and blank
pub record IsMadeFlash (geometry : Geometry) (flash : FlashState) : Type 0 where
  pub geometry_is : flash.geometry ≡ geometry
  pub tells : IsTrue flash.told
  pub blank : IsBlankFlash geometry flash.cells

-- the flash of a name under which this lies: that one, or a blank one where nothing does
abbrev pub IsFlashFor : Option Image → Geometry → FlashState → Type 0
IsFlashFor (Some image) geometry flash = IsFlashOf image flash
IsFlashFor None geometry flash = IsMadeFlash geometry flash

-- the flash of a name was handed out, which was not out before; no call failed
pub record HandsOut (old new : BenchState) (name : List ℕ) (geometry : Geometry) (flash : FlashState) : Type 0 where
  pub unfailing : new.faults ≡ old.faults
  pub lay_there : old.is_out name ≡ false
  pub is_out_now : new.is_out name ≡ true
  pub elsewhere : SameElsewhere old new name
  pub flash_is : IsTrue old.told → IsFlashFor (old.image name) geometry flash

-- the flash of a name was not handed out, and all is as it was: a call failed, which was counted, or memory was wanting
abbrev pub KeepsFlash : BenchState → BenchState → NotTaken → Type 0
KeepsFlash old new refusals.Failed = SameFlashes old new × Rose old.faults new.faults
KeepsFlash old new refusals.NoMemory = SameFlashes old new × (new.faults ≡ old.faults)

-- what each answer of `take_flash` says
abbrev pub TakesFlash : {F : Type 0} → (F → FlashState) → BenchState → BenchState → List ℕ → Geometry → Result F NotTaken → Type 0
TakesFlash state old new name geometry (Ok flash) = HandsOut old new name geometry (state flash)
TakesFlash state old new name geometry (Err refusal) = KeepsFlash old new refusal

-- a flash was given back: from now on it lies there under its name, where the bench and the flash tell what it holds
pub record PutsBack (old new : BenchState) (name : List ℕ) (flash : FlashState) : Type 0 where
  pub is_back : new.is_out name ≡ false
  pub elsewhere : SameElsewhere old new name
  pub image_is : IsTrue old.told → IsTrue flash.told → new.image name ≡ Some (record { geometry = flash.geometry; cells = flash.cells })
