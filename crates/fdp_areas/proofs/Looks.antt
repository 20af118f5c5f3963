-- What one look at a page shows, and how it ends.
use Rattle.std.proofs.Common.{◌≡◌, ℕ, ◌+◌, ◌<◌, IsTrue, List, Some, refl, ap, ◌∙◌, sym}
use Rattle.std.specs.Prelude.{slice_get}
use Rattle.fdp_base.specs.declared.config.Geometry.{Geometry}
use Rattle.fdp_base.specs.declared.entry.Spot.{Spot}
use Rattle.fdp_base.specs.Geometry.{area_pages}
use Rattle.fdp_flash.specs.declared.answer.Seen.{Seen}
use Rattle.fdp_flash.specs.declared.answer.Seen.TheVariants as seen
use Rattle.fdp_flash.specs.declared.cell.Cell.{Cell}
use Rattle.fdp_flash.specs.Answers.{Looks}
use Rattle.fdp_flash.specs.Layout.{first_page, page_number}
use Rattle.fdp_flash.specs.FlashState.{Begins, FlashState, IsWellFormed}
use Rattle.fdp_flash.proofs.Failing.{look_failed}
use Rattle.fdp_image.specs.Areas.{area_of, area_unit}
use Rattle.fdp_image.proofs.AreaPages.{area_page}
use Rattle.fdp_areas.specs.Looking.{EndsLook, Shows}

-- ---- one look at a page of an area

read_at : (g : Geometry) (old : FlashState) (at : Spot) (area number : ℕ) (cell : Cell) → g ≡ old.geometry → number < area_pages g → page_number g at ≡ first_page g (area_unit g area) + number
    → slice_get old.cells (page_number old.geometry at) ≡ Some cell → slice_get (area_of g area old.cells) number ≡ Some cell
read_at g old at area number cell same lt place h =
    area_page g area number old.cells lt ∙ ap (slice_get old.cells) (sym place ∙ ap (λ (x : Geometry). page_number x at) same) ∙ h

pub shows : (g : Geometry) (old new : FlashState) (at : Spot) (spare bytes : List ℕ) (result : Seen) (area number : ℕ) → g ≡ old.geometry → number < area_pages g
    → page_number g at ≡ first_page g (area_unit g area) + number → Looks old new at spare bytes result → IsTrue old.told → Shows (area_of g area old.cells) number spare bytes result
shows g old new at spare bytes seen.Whole area number same lt place a told = read_at g old at area number _ same lt place (a.whole told refl)
shows g old new at spare bytes seen.Blank area number same lt place a told = read_at g old at area number _ same lt place (a.blank told refl)
shows g old new at spare bytes seen.Torn area number same lt place a told = read_at g old at area number _ same lt place (a.torn told refl)
shows g old new at spare bytes seen.Failed area number same lt place a told = tt

-- the same of a page of the flash, by its number
read_data : (g : Geometry) (old : FlashState) (at : Spot) (number : ℕ) (cell : Cell) → g ≡ old.geometry → page_number g at ≡ number → slice_get old.cells (page_number old.geometry at) ≡ Some cell → slice_get old.cells number ≡ Some cell
read_data g old at number cell same place h = ap (slice_get old.cells) (sym place ∙ ap (λ (x : Geometry). page_number x at) same) ∙ h

pub shows_data : (g : Geometry) (old new : FlashState) (at : Spot) (spare bytes : List ℕ) (result : Seen) (number : ℕ) → g ≡ old.geometry
    → page_number g at ≡ number → Looks old new at spare bytes result → IsTrue old.told → Shows old.cells number spare bytes result
shows_data g old new at spare bytes seen.Whole number same place a told = read_data g old at number _ same place (a.whole told refl)
shows_data g old new at spare bytes seen.Blank number same place a told = read_data g old at number _ same place (a.blank told refl)
shows_data g old new at spare bytes seen.Torn number same place a told = read_data g old at number _ same place (a.torn told refl)
shows_data g old new at spare bytes seen.Failed number same place a told = tt

pub ends_look : (old new : FlashState) (at : Spot) (spare bytes : List ℕ) (result : Seen) → IsWellFormed new → Begins old new → Looks old new at spare bytes result → EndsLook old new result
ends_look old new at spare bytes seen.Whole w b a = a.ended.no_fault refl
ends_look old new at spare bytes seen.Blank w b a = a.ended.no_fault refl
ends_look old new at spare bytes seen.Torn w b a = a.ended.no_fault refl
ends_look old new at spare bytes seen.Failed w b a = look_failed old new at spare bytes w b a
