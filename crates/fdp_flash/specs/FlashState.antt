-- What contracts see of a flash, and what each call does to it.
use Rattle.std.specs.Prelude.{◌≡◌, ℕ, ◌^◌, ◌<◌, ◌≤◌, Bool, true, false, IsTrue, List, [], ◌∷◌, ◌++◌, length, slice_get, Some}
use Rattle.fdp_base.specs.declared.config.Geometry.{Geometry}
use Rattle.fdp_base.specs.declared.entry.Spot.{Spot}
use Rattle.fdp_flash.specs.declared.answer.Operation.{Operation}
use Rattle.fdp_flash.specs.declared.cell.Cell.{Cell}
use Rattle.fdp_flash.specs.declared.cell.Cell.TheVariants.{Whole}
use Rattle.fdp_base.specs.Counts.{counted, Rose}
use Rattle.fdp_base.specs.Geometry.{IsValidGeometry, all_pages}
use Rattle.fdp_flash.specs.Cells.{AreCells}

-- a call: what it did, its page (page 0 of the unit for an erase), and whether it failed
pub record Call : Type 0 where
  pub operation : Operation
  pub at : Spot
  pub failed : Bool

-- What contracts see of a flash.
pub record FlashState : Type 1 where
  pub geometry : Geometry
  -- the calls that have begun
  pub moment : ℕ
  -- the faults that were counted
  pub faults : ℕ
  -- the programs of data units that were done
  pub programs : ℕ
  -- whether it is promised that no call fails
  pub reliable : Bool
  -- whether the cells are told, and the cells, which say nothing where they are not told
  pub told : Bool
  pub cells : List Cell
  -- whether the images are told, and the images that a stop in the call of a moment may have left; none where not told
  pub tells_images : Bool
  pub during : ℕ → List Cell → Type 0
  -- whether the calls are told, and the calls from the first one on
  pub tells_calls : Bool
  pub calls : List Call

-- the count of faults rose, or stands at its last value; no reliable flash does so
pub record Faulted (old new : FlashState) : Type 0 where
  pub rose : Rose old.faults new.faults
  pub unreliable : old.reliable ≡ false

-- A call was made: the moment rose, no count fell, and what was told of earlier moments is as it was.
pub record Begins (old new : FlashState) : Type 0 where
  pub geometry : new.geometry ≡ old.geometry
  pub moment : new.moment ≡ counted old.moment
  pub later : old.moment ≤ new.moment
  pub faults : old.faults ≤ new.faults
  pub programs : old.programs ≤ new.programs
  pub reliable : new.reliable ≡ old.reliable
  pub told : new.told ≡ old.told
  pub tells_images : new.tells_images ≡ old.tells_images
  pub earlier : (m : ℕ) (image : List Cell) → m ≤ old.moment → new.during m image → old.during m image
  pub kept : (m : ℕ) (image : List Cell) → m ≤ old.moment → old.during m image → new.during m image

-- How a call ended: faults are counted where it failed and only there; where the calls are told it is the last of
-- them; a stop in it may leave no other image than these, and each of these where the calls are told.
pub record Ends (old new : FlashState) (call : Call) (MayLeave : List Cell → Type 0) : Type 0 where
  pub fault : call.failed ≡ true → Faulted old new
  pub no_fault : call.failed ≡ false → new.faults ≡ old.faults
  pub listed_before : IsTrue new.tells_calls → IsTrue old.tells_calls
  pub listed : IsTrue new.tells_calls → new.calls ≡ old.calls ++ call ∷ []
  pub images : (image : List Cell) → old.moment < new.moment → new.during new.moment image → MayLeave image
  pub all_images : IsTrue new.tells_calls → (image : List Cell) → MayLeave image → new.during new.moment image
  pub unchanged_image : IsTrue new.tells_images → old.moment < new.moment → new.during new.moment old.cells

-- a call that only reads
pub record Reads (old new : FlashState) : Type 0 where
  pub programs : new.programs ≡ old.programs
  pub cells : IsTrue old.told → new.cells ≡ old.cells

-- no count passes its last value
pub record AreCounts (moment faults programs : ℕ) : Type 0 where
  pub moment_is : moment < 2 ^ 64
  pub faults_are : faults < 2 ^ 64
  pub programs_are : programs < 2 ^ 64

-- The geometry is a valid one, and no count passes its last value. Where told there is a cell for each page, with the bytes of a block where it is whole;
-- each image has such cells too, so that a flash can go on with it; and each call has its place on the list.
pub record IsWellFormed (s : FlashState) : Type 0 where
  pub geometry : IsValidGeometry s.geometry
  pub counts : AreCounts s.moment s.faults s.programs
  pub size : IsTrue s.told → length s.cells ≡ all_pages s.geometry
  pub blocks : IsTrue s.told → (k : ℕ) (spare bytes : List ℕ) → slice_get s.cells k ≡ Some (Whole spare bytes) → length bytes ≡ s.geometry.block
  pub images : (m : ℕ) (image : List Cell) → s.during m image → AreCells s.geometry image
  pub calls : IsTrue s.tells_calls → s.moment ≡ length s.calls

-- the call of this moment stands on the list of calls
pub record WasRecorded (s : FlashState) (moment : ℕ) : Type 0 where
  pub least : 0 < moment
  pub most : moment ≤ length s.calls
