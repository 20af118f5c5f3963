-- An area that is erased, and one whose pages are programmed one after another.
use Rattle.std.proofs.Common.{◌≡◌, ℕ, ◌+◌, ◌/◌, ◌%◌, ◌<◌, ◌≤◌, List, length, set, refl, sym, ap, ◌∙◌, arith, inl, inr}
use Rattle.std.specs.Prelude.{slice_get}
use Rattle.fdp_base.specs.declared.config.Geometry.{Geometry}
use Rattle.fdp_base.specs.declared.entry.Spot.{Spot}
use Rattle.fdp_base.specs.Geometry.{IsValidGeometry, all_pages, area_pages}
use Rattle.fdp_flash.specs.declared.cell.Cell.{Cell}
use Rattle.fdp_flash.specs.Area.{AreaMayLeave, IsBlankArea}
use Rattle.fdp_flash.specs.Cells.{ProgramMayLeave}
use Rattle.fdp_flash.specs.Layout.{first_page, page_number}
use Rattle.fdp_flash.proofs.Pages.{program_other, program_size}
use Rattle.fdp_image.specs.Areas.{area_of, area_unit}
use Rattle.fdp_image.specs.Replacing.{IsSameBeside, IsWiped}
use Rattle.fdp_image.specs.Saving.{AreBlankFrom}
use Rattle.fdp_image.proofs.AreaPages.{area_page}
use Rattle.fdp_image.proofs.NextRecord.{area_long, area_set}
use Rattle.fdp_image.proofs.Spots.{spot_number, unit_below}
use Rattle.fdp_image.proofs.Wiping.{wiped_area}
use Rattle.fdp_checkpoint.specs.Writing.{IsErasing}

-- ---- pages beside the area

pub beside_none : (g : Geometry) (area : ℕ) (cells : List Cell) → IsSameBeside g area cells cells
beside_none g area cells = record { size = refl; below = λ page lt. refl; above = λ page le. refl }

pub beside_joined : (g : Geometry) (area : ℕ) (a b c : List Cell) → IsSameBeside g area a b → IsSameBeside g area b c → IsSameBeside g area a c
beside_joined g area a b c p q = record {
  size = q.size ∙ p.size;
  below = λ page lt. q.below page lt ∙ p.below page lt;
  above = λ page le. q.above page le ∙ p.above page le;
}

-- ---- an erase of the area

end_of_area : (g : Geometry) (area : ℕ) → first_page g (area_unit g area + g.area_units) ≡ first_page g (area_unit g area) + area_pages g
end_of_area g area = omega arith

pub erased_beside : (g : Geometry) (area : ℕ) (old new : List Cell) → AreaMayLeave g (area_unit g area) g.area_units old new → IsSameBeside g area old new
erased_beside g area old new p = record { size = p.size; below = p.below; above = λ page le. p.above page (omega (arith, end_of_area g area, le)) }

pub erased_wiped : (g : Geometry) (area : ℕ) (old new : List Cell) → area ≤ 1 → length old ≡ all_pages g → AreaMayLeave g (area_unit g area) g.area_units old new → IsWiped (area_of g area old) (area_of g area new)
erased_wiped g area old new two size p = record {
  size = area_long g area new two (p.size ∙ size) ∙ sym (area_long g area old two size);
  pages = λ k lt.
      let first = first_page g (area_unit g area) in
      let inside : k < area_pages g = omega (arith, lt, area_long g area old two size) in
      let now = area_page g area k new inside in
      elim (p.inside (first + k)) [
        | inl same ↦ inl (now ∙ same ∙ sym (area_page g area k old inside))
        | inr left ↦ inr (elim left [ inl blank ↦ inl (now ∙ blank) | inr torn ↦ inr (now ∙ torn) ])
      ];
}

pub erased_area : (g : Geometry) (area : ℕ) (old new : List Cell) → area ≤ 1 → length old ≡ all_pages g → AreaMayLeave g (area_unit g area) g.area_units old new → IsErasing g area old new
erased_area g area old new two size p = record {
  beside = erased_beside g area old new p;
  left = wiped_area (area_of g area old) (area_of g area new) (erased_wiped g area old new two size p);
}

pub blank_area : (g : Geometry) (area : ℕ) (cells : List Cell) → IsValidGeometry g → area ≤ 1 → length cells ≡ all_pages g → IsBlankArea g (area_unit g area) g.area_units cells → AreBlankFrom 0 (area_of g area cells)
blank_area g area cells valid two size blank k least lt =
    let inside : k < area_pages g = omega (arith, lt, area_long g area cells two size) in
    let some : 0 < g.unit_pages = omega (arith, valid.unit_pages.0) in
    let below : k / g.unit_pages < g.area_units = unit_below k g.unit_pages g.area_units some inside in
    let unit = area_unit g area + k / g.unit_pages in
    let place : first_page g unit + k % g.unit_pages ≡ first_page g (area_unit g area) + k = spot_number (area_unit g area) k g.unit_pages some in
    area_page g area k cells inside ∙ sym (ap (slice_get cells) place) ∙ (blank unit (omega arith) (omega (arith, below))).blank (k % g.unit_pages) (omega arith)

-- ---- a program of a page of the area

pub programmed_beside : (g : Geometry) (area number : ℕ) (at : Spot) (spare bytes : List ℕ) (old new : List Cell) → number < area_pages g → page_number g at ≡ first_page g (area_unit g area) + number
    → ProgramMayLeave g old at spare bytes new → IsSameBeside g area old new
programmed_beside g area number at spare bytes old new inside place p = record {
  size = program_size g old at spare bytes new p;
  below = λ page lt. program_other g old at spare bytes new page p (λ same. absurd (omega (arith, same, place, lt)));
  above = λ page le. program_other g old at spare bytes new page p (λ same. absurd (omega (arith, same, place, le, inside)));
}

pub programmed_area : (g : Geometry) (area number : ℕ) (at : Spot) (spare bytes : List ℕ) (old new : List Cell) → page_number g at ≡ first_page g (area_unit g area) + number
    → (p : ProgramMayLeave g old at spare bytes new) → area_of g area new ≡ set (area_of g area old) number p.cell
programmed_area g area number at spare bytes old new place p =
    ap (area_of g area) (p.cells ∙ ap (λ (k : ℕ). set old k p.cell) place) ∙ area_set g area number old p.cell
