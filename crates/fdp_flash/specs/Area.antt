-- Several units that follow one another.
use Rattle.std.specs.Prelude.{◌≡◌, ◌⊎◌, ℕ, ◌+◌, ◌<◌, ◌≤◌, List, length, slice_get, Some}
use Rattle.fdp_base.specs.declared.config.Geometry.{Geometry}
use Rattle.fdp_flash.specs.declared.cell.Cell.{Cell}
use Rattle.fdp_flash.specs.declared.cell.Cell.TheVariants.{Blank, Torn}
use Rattle.fdp_flash.specs.Cells.{IsBlankUnit}
use Rattle.fdp_flash.specs.Layout.{first_page}

-- each page of these units is as it was, blank or torn; all other pages are as they were
pub record AreaMayLeave (g : Geometry) (first count : ℕ) (old new : List Cell) : Type 0 where
  pub size : length new ≡ length old
  pub below : (k : ℕ) → k < first_page g first → slice_get new k ≡ slice_get old k
  pub above : (k : ℕ) → first_page g (first + count) ≤ k → slice_get new k ≡ slice_get old k
  pub inside : (k : ℕ) → (slice_get new k ≡ slice_get old k) ⊎ (slice_get new k ≡ Some Blank) ⊎ (slice_get new k ≡ Some Torn)

-- each page of these units is blank
abbrev pub IsBlankArea : Geometry → ℕ → ℕ → List Cell → Type 0
IsBlankArea g first count cells = (unit : ℕ) → first ≤ unit → unit < first + count → IsBlankUnit g cells unit
