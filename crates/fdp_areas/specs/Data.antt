-- Whether data pages are blank.
use Rattle.std.specs.Prelude.{◌≡◌, ℕ, ◌<◌, false, IsTrue, List, Option, Some, None, slice_get, take}
use Rattle.std.specs.List.{list_all}
use Rattle.fdp_flash.specs.declared.cell.Cell.{Cell}
use Rattle.fdp_flash.specs.declared.cell.Cell.TheVariants.{Blank}
use Rattle.fdp_image.specs.Reads.{is_blank}

-- so many pages come first, all of them blank
abbrev pub AreBlankBelow : ℕ → List Cell → Type 0
AreBlankBelow count cells = (k : ℕ) → k < count → slice_get cells k ≡ Some Blank

-- of the pages that come first this is the first that is not blank
pub record IsFirstUsed (count : ℕ) (cells : List Cell) (page : ℕ) : Type 0 where
  pub within : page < count
  pub cell : Cell
  pub holds : slice_get cells page ≡ Some cell
  pub used : is_blank cell ≡ false
  pub before : AreBlankBelow page cells
  pub not_all : list_all is_blank (take count cells) ≡ false

-- what is said of so many pages that come first: which is the first that is not blank, or that all are
abbrev pub TellsUsed : ℕ → List Cell → Option ℕ → Type 0
TellsUsed count cells None = IsTrue (list_all is_blank (take count cells))
TellsUsed count cells (Some page) = IsFirstUsed count cells page
