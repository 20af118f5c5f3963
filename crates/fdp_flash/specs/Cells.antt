-- The pages of a flash in order, and what calls and stops make of them.
use Rattle.std.specs.Prelude.{◌≡◌, ◌⊎◌, ℕ, ◌+◌, ◌<◌, ◌≤◌, List, length, slice_get, slice_set, Some}
use Rattle.fdp_base.specs.declared.config.Geometry.{Geometry}
use Rattle.fdp_base.specs.declared.entry.Spot.{Spot}
use Rattle.fdp_flash.specs.declared.cell.Cell.{Cell}
use Rattle.fdp_flash.specs.declared.cell.Cell.TheVariants.{Blank, Torn, Whole}
use Rattle.fdp_base.specs.Geometry.{all_pages}
use Rattle.fdp_flash.specs.Layout.{first_page, page_number}

-- this page and those behind it in its unit are blank
pub record IsBlankFrom (g : Geometry) (cells : List Cell) (at : Spot) : Type 0 where
  pub blank : (page : ℕ) → at.page ≤ page → page < g.unit_pages → slice_get cells (first_page g at.unit + page) ≡ Some Blank

-- each page of the unit is blank
pub record IsBlankUnit (g : Geometry) (cells : List Cell) (unit : ℕ) : Type 0 where
  pub blank : (page : ℕ) → page < g.unit_pages → slice_get cells (first_page g unit + page) ≡ Some Blank

-- each page is blank
pub record IsBlankFlash (g : Geometry) (cells : List Cell) : Type 0 where
  pub blank : (k : ℕ) → k < all_pages g → slice_get cells k ≡ Some Blank

-- each whole page has so many bytes
abbrev pub HaveBytes : ℕ → List Cell → Type 0
HaveBytes size cells = (k : ℕ) (spare bytes : List ℕ) → slice_get cells k ≡ Some (Whole spare bytes) → length bytes ≡ size

-- a cell for each page, and the bytes of a block in each that is whole
pub record AreCells (g : Geometry) (cells : List Cell) : Type 0 where
  pub size : length cells ≡ all_pages g
  pub blocks : HaveBytes g.block cells

-- the pages of all other units are as they were
pub record IsSameOutside (g : Geometry) (unit : ℕ) (old new : List Cell) : Type 0 where
  pub size : length new ≡ length old
  pub below : (k : ℕ) → k < first_page g unit → slice_get new k ≡ slice_get old k
  pub above : (k : ℕ) → first_page g unit + g.unit_pages ≤ k → slice_get new k ≡ slice_get old k

-- the page holds this spare and these bytes, and all other pages are as they were
abbrev pub IsProgrammed : Geometry → List Cell → Spot → List ℕ → List ℕ → List Cell → Type 0
IsProgrammed g old at spare bytes new = new ≡ slice_set old (page_number g at) (Whole spare bytes)

-- the unit is blank, and all other pages are as they were
pub record IsErased (g : Geometry) (old : List Cell) (unit : ℕ) (new : List Cell) : Type 0 where
  pub others : IsSameOutside g unit old new
  pub blank : IsBlankUnit g new unit

-- a program that stops or fails may leave its page blank, torn or whole; all other pages are as they were
pub record ProgramMayLeave (g : Geometry) (old : List Cell) (at : Spot) (spare bytes : List ℕ) (new : List Cell) : Type 0 where
  pub cell : Cell
  pub page : (cell ≡ Blank) ⊎ (cell ≡ Torn) ⊎ (cell ≡ Whole spare bytes)
  pub cells : new ≡ slice_set old (page_number g at) cell

-- an erase that stops or fails may leave each page of its unit as it was, blank or torn; all other pages are as they were
pub record EraseMayLeave (g : Geometry) (old : List Cell) (unit : ℕ) (new : List Cell) : Type 0 where
  pub others : IsSameOutside g unit old new
  pub pages : (page : ℕ) → page < g.unit_pages → (slice_get new (first_page g unit + page) ≡ slice_get old (first_page g unit + page)) ⊎ (slice_get new (first_page g unit + page) ≡ Some Blank) ⊎ (slice_get new (first_page g unit + page) ≡ Some Torn)
