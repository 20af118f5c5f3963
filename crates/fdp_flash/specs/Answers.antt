-- What each answer of a flash says.
use Rattle.std.specs.Prelude.{◌≡◌, ◌≢◌, ℕ, ◌<◌, ◌≤◌, Bool, true, false, IsTrue, List, slice_get, Some}
use Rattle.fdp_base.specs.declared.entry.Spot.{Spot}
use Rattle.fdp_flash.specs.declared.answer.Fetched.{Fetched}
use Rattle.fdp_flash.specs.declared.answer.Fetched.TheVariants as fetched
use Rattle.fdp_flash.specs.declared.answer.Operation.TheVariants.{Look, Fetch, Program, Erase}
use Rattle.fdp_flash.specs.declared.answer.Seen.{Seen}
use Rattle.fdp_flash.specs.declared.answer.Seen.TheVariants as seen
use Rattle.fdp_flash.specs.declared.answer.Wrote.{Wrote}
use Rattle.fdp_flash.specs.declared.answer.Wrote.TheVariants as wrote
use Rattle.fdp_flash.specs.declared.cell.Cell.TheVariants.{Blank, Torn, Whole}
use Rattle.fdp_flash.specs.Cells.{IsProgrammed, IsErased, ProgramMayLeave, EraseMayLeave}
use Rattle.fdp_base.specs.Counts.{counted}
use Rattle.fdp_flash.specs.FlashState.{FlashState, Ends, Reads}
use Rattle.fdp_base.specs.Geometry.{data_units}
use Rattle.fdp_flash.specs.Layout.{page_number}

-- whether a look failed
abbrev pub seen_failed : Seen → Bool
seen_failed seen.Failed = true
seen_failed seen.Whole = false
seen_failed seen.Blank = false
seen_failed seen.Torn = false

-- whether a fetch answered Failed
abbrev pub fetched_failed : Fetched → Bool
fetched_failed fetched.Failed = true
fetched_failed fetched.Whole = false
fetched_failed fetched.Other = false

-- whether a program or an erase failed
abbrev pub wrote_failed : Wrote → Bool
wrote_failed wrote.Failed = true
wrote_failed wrote.Done = false

-- a look tells the page as it is, or failed; it changes nothing
pub record Looks (old new : FlashState) (at : Spot) (spare bytes : List ℕ) (result : Seen) : Type 0 where
  pub ended : Ends old new (record { operation = Look; at = at; failed = seen_failed result }) (λ image. image ≡ old.cells)
  pub reads : Reads old new
  pub whole : IsTrue old.told → result ≡ seen.Whole → slice_get old.cells (page_number old.geometry at) ≡ Some (Whole spare bytes)
  pub blank : IsTrue old.told → result ≡ seen.Blank → slice_get old.cells (page_number old.geometry at) ≡ Some Blank
  pub torn : IsTrue old.told → result ≡ seen.Torn → slice_get old.cells (page_number old.geometry at) ≡ Some Torn

-- A fetch gives the bytes of the page that is whole with this spare. Failed is counted; Other is counted, or the
-- cells are told and the page is none that is whole with this spare. It changes nothing.
pub record Fetches (old new : FlashState) (at : Spot) (spare bytes : List ℕ) (result : Fetched) : Type 0 where
  -- whether the call failed: it answered Failed, or it answered Other and counted that
  pub failed : Bool
  pub ended : Ends old new (record { operation = Fetch; at = at; failed = failed }) (λ image. image ≡ old.cells)
  pub reads : Reads old new
  pub is_failed : result ≡ fetched.Failed → failed ≡ true
  pub is_whole : result ≡ fetched.Whole → failed ≡ false
  pub whole : IsTrue old.told → result ≡ fetched.Whole → slice_get old.cells (page_number old.geometry at) ≡ Some (Whole spare bytes)
  pub told : result ≡ fetched.Other → failed ≡ false → IsTrue old.told
  pub other : result ≡ fetched.Other → failed ≡ false → (found : List ℕ) → slice_get old.cells (page_number old.geometry at) ≢ Some (Whole spare found)

-- A program that is done stands, and is counted where its unit is one of data. One that failed left its page blank,
-- torn or whole, and is not counted.
pub record Programs (old new : FlashState) (at : Spot) (spare bytes : List ℕ) (result : Wrote) : Type 0 where
  pub ended : Ends old new (record { operation = Program; at = at; failed = wrote_failed result }) (ProgramMayLeave old.geometry old.cells at spare bytes)
  pub done : IsTrue old.told → result ≡ wrote.Done → IsProgrammed old.geometry old.cells at spare bytes new.cells
  pub failed : IsTrue old.told → result ≡ wrote.Failed → ProgramMayLeave old.geometry old.cells at spare bytes new.cells
  pub data_done : result ≡ wrote.Done → at.unit < data_units old.geometry → new.programs ≡ counted old.programs
  pub system_done : result ≡ wrote.Done → data_units old.geometry ≤ at.unit → new.programs ≡ old.programs
  pub not_done : result ≡ wrote.Failed → new.programs ≡ old.programs

-- An erase that is done leaves its unit blank. One that failed left each page of the unit as it was, blank or torn.
pub record Erases (old new : FlashState) (unit : ℕ) (result : Wrote) : Type 0 where
  pub ended : Ends old new (record { operation = Erase; at = record { unit = unit; page = 0 }; failed = wrote_failed result }) (EraseMayLeave old.geometry old.cells unit)
  pub done : IsTrue old.told → result ≡ wrote.Done → IsErased old.geometry old.cells unit new.cells
  pub failed : IsTrue old.told → result ≡ wrote.Failed → EraseMayLeave old.geometry old.cells unit new.cells
  pub programs : new.programs ≡ old.programs
