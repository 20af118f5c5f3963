-- What the copy of one page does to a flash.
use Rattle.std.specs.Prelude.{◌≡◌, ◌≢◌, ◌⊎◌, ℕ, ◌<◌, false, true, IsTrue, List, [], ◌∷◌, Some, slice_get, slice_set}
use Rattle.fdp_base.specs.declared.config.Geometry.{Geometry}
use Rattle.fdp_base.specs.declared.entry.Spot.{Spot}
use Rattle.fdp_base.specs.Counts.{counted}
use Rattle.fdp_base.specs.Geometry.{data_units}
use Rattle.fdp_calls.specs.Calls.{MakesCalls, fetch_at, program_at}
use Rattle.fdp_calls.specs.Media.{IsReadFrom}
use Rattle.fdp_flash.specs.declared.answer.Wrote.{Wrote}
use Rattle.fdp_flash.specs.declared.answer.Wrote.TheVariants as wrote
use Rattle.fdp_flash.specs.declared.cell.Cell.{Cell}
use Rattle.fdp_flash.specs.declared.cell.Cell.TheVariants.{Whole}
use Rattle.fdp_flash.specs.Answers.{wrote_failed}
use Rattle.fdp_flash.specs.Cells.{ProgramMayLeave}
use Rattle.fdp_flash.specs.FlashState.{Call, Faulted, FlashState}
use Rattle.fdp_flash.specs.Layout.{page_number}
use Rattle.fdp_flash.specs.Runs.{Runs}

-- a page of a data unit
pub record IsDataPage (g : Geometry) (spot : Spot) : Type 0 where
  pub unit : spot.unit < data_units g
  pub page : spot.page < g.unit_pages

-- a page is whole, with this spare and these bytes
abbrev pub Holds : Geometry → List Cell → Spot → List ℕ → List ℕ → Type 0
Holds g cells spot spare bytes = slice_get cells (page_number g spot) ≡ Some (Whole spare bytes)

-- each page but one is as it was
abbrev pub IsSameBut : Geometry → Spot → List Cell → List Cell → Type 0
IsSameBut g spot old new = (k : ℕ) → k ≢ page_number g spot → slice_get new k ≡ slice_get old k

-- a page was whole with a spare; another has the same spare and bytes now, and all others are as they were
pub record IsCopied (g : Geometry) (from to : Spot) (spare : List ℕ) (old new : List Cell) : Type 0 where
  pub bytes : List ℕ
  pub held : Holds g old from spare bytes
  pub now : new ≡ slice_set old (page_number g to) (Whole spare bytes)

-- the calls of a copy: a fetch of its old page, and a program of its new one, which failed or not
abbrev pub calls_of : Spot → Spot → Wrote → List Call
calls_of from to result = fetch_at from false ∷ program_at to (wrote_failed result) ∷ []

-- a program that failed left its page blank, torn or whole with this spare; all other pages are as they were
abbrev pub MayBeLeft : Geometry → List Cell → Spot → List ℕ → List Cell → Type 0
MayBeLeft g old to spare new = (bytes : List ℕ) × ProgramMayLeave g old to spare bytes new

-- A copy that is done has the spare and the bytes of its page, and one program of a data unit more was done. One whose program failed
-- is a fault that was counted, and no such program was done. Only the page of the copy changes. Just these calls were made, and a stop in one
-- leaves the cells as they were, or what the program may leave.
pub record Copies (old new : FlashState) (from to : Spot) (spare : List ℕ) (result : Wrote) : Type 0 where
  pub done : result ≡ wrote.Done → IsTrue old.told → IsCopied old.geometry from to spare old.cells new.cells
  pub programs : result ≡ wrote.Done → new.programs ≡ counted old.programs
  pub not_done : result ≡ wrote.Failed → new.programs ≡ old.programs
  pub failed : result ≡ wrote.Failed → Faulted old new
  pub others : IsTrue old.told → IsSameBut old.geometry to old.cells new.cells
  pub left : result ≡ wrote.Failed → IsTrue old.told → MayBeLeft old.geometry old.cells to spare new.cells
  pub made : MakesCalls old new (calls_of from to result)
  pub stops : Runs old new (λ m image. (image ≡ old.cells) ⊎ MayBeLeft old.geometry old.cells to spare image)

-- a page could not be fetched: that one call was made, and was counted as a fault; nothing changes
pub record FailsToFetch (old new : FlashState) (at : Spot) : Type 0 where
  pub read : IsReadFrom old new
  pub failed : Faulted old new
  pub made : MakesCalls old new (fetch_at at true ∷ [])
