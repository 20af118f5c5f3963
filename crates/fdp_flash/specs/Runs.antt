-- Several calls of a flash, one after another.
use Rattle.std.specs.Prelude.{◌≡◌, ℕ, ◌<◌, ◌≤◌, IsTrue, List, slice_get, Some}
use Rattle.fdp_flash.specs.declared.cell.Cell.{Cell}
use Rattle.fdp_flash.specs.FlashState.{FlashState, Call}

-- Some calls were made between two states, or none. Where the cells are told, each image that a stop in one of these
-- calls may have left has `Image`, which takes its moment too.
pub record Runs (old new : FlashState) (Image : ℕ → List Cell → Type 0) : Type 0 where
  pub geometry : new.geometry ≡ old.geometry
  pub reliable : new.reliable ≡ old.reliable
  pub told : new.told ≡ old.told
  pub tells_images : new.tells_images ≡ old.tells_images
  pub later : old.moment ≤ new.moment
  pub faults : old.faults ≤ new.faults
  pub no_fault : IsTrue old.reliable → new.faults ≡ old.faults
  pub programs : old.programs ≤ new.programs
  pub images : IsTrue old.told → (m : ℕ) (image : List Cell) → old.moment < m → m ≤ new.moment → new.during m image → Image m image
  pub earlier : (m : ℕ) (image : List Cell) → m ≤ old.moment → new.during m image → old.during m image
  pub kept : (m : ℕ) (image : List Cell) → m ≤ old.moment → old.during m image → new.during m image
  pub listed_before : IsTrue new.tells_calls → IsTrue old.tells_calls
  pub listed : IsTrue new.tells_calls → (k : ℕ) (call : Call) → slice_get old.calls k ≡ Some call → slice_get new.calls k ≡ Some call

-- Some calls were made between two states, or none. Where the cells are told, a fact holds of them after these calls, and
-- of each image that a stop in one of these calls may have left.
pub record Holds (Fact : List Cell → Type 0) (old new : FlashState) : Type 0 where
  pub run : Runs old new (λ m image. Fact image)
  pub cells : IsTrue old.told → Fact new.cells
