-- What is read of a page.
use Rattle.std.specs.Prelude.{◌≡◌, ◌≢◌, ℕ, false, List, slice_get, Some}
use Rattle.fdp_flash.specs.declared.answer.Fetched.{Fetched}
use Rattle.fdp_flash.specs.declared.answer.Fetched.TheVariants as fetched
use Rattle.fdp_flash.specs.declared.answer.Seen.{Seen}
use Rattle.fdp_flash.specs.declared.answer.Seen.TheVariants as seen
use Rattle.fdp_flash.specs.declared.cell.Cell.{Cell}
use Rattle.fdp_flash.specs.declared.cell.Cell.TheVariants.{Blank, Torn, Whole}
use Rattle.fdp_flash.specs.Answers.{seen_failed, fetched_failed}

-- the page as it is
pub record ReadsPage (cells : List Cell) (page : ℕ) (spare bytes : List ℕ) (result : Seen) : Type 0 where
  pub answers : seen_failed result ≡ false
  pub whole : result ≡ seen.Whole → slice_get cells page ≡ Some (Whole spare bytes)
  pub blank : result ≡ seen.Blank → slice_get cells page ≡ Some Blank
  pub torn : result ≡ seen.Torn → slice_get cells page ≡ Some Torn

-- the bytes of the page where it is whole with this spare
pub record ReadsExpected (cells : List Cell) (page : ℕ) (spare bytes : List ℕ) (result : Fetched) : Type 0 where
  pub answers : fetched_failed result ≡ false
  pub whole : result ≡ fetched.Whole → slice_get cells page ≡ Some (Whole spare bytes)
  pub other : result ≡ fetched.Other → (found : List ℕ) → slice_get cells page ≢ Some (Whole spare found)
