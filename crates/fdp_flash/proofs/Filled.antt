-- Pages that were all made one cell.
use Rattle.std.proofs.Common.{◌≡◌, ◌≢◌, ◌⊎◌, ℕ, zero, suc, ◌+◌, ◌<◌, ◌≤◌, List, length, slice_set, Some, arith, refl, ◌∙◌, add-one, inl, inr}
use Rattle.std.specs.List.{slice_get}
use Rattle.std.proofs.lemmas.Bool.{cases_eq}
use Rattle.std.proofs.lemmas.List.{length-set}
use Rattle.fdp_base.specs.declared.config.Geometry.{Geometry}
use Rattle.fdp_flash.specs.Cells.{IsErased, IsSameOutside, EraseMayLeave}
use Rattle.fdp_flash.specs.Layout.{first_page}
use Rattle.fdp_flash.specs.Recorded.{filled}
use Rattle.fdp_flash.specs.declared.cell.Cell.{Cell}
use Rattle.fdp_flash.specs.declared.cell.Cell.TheVariants.{Blank, Torn}
use Rattle.fdp_flash.proofs.Lists.{slice_get-set_same, slice_get-set_other}
use Rattle.fdp_flash.proofs.Pages.{same_outside_refl}

pub filled-zero : (first : ℕ) (content : Cell) (cells : List Cell) → filled first 0 content cells ≡ cells
unfolding filled
filled-zero first content cells = refl

pub filled-more : (first n : ℕ) (content : Cell) (cells : List Cell) → filled first (n + 1) content cells ≡ slice_set (filled first n content cells) (first + n) content
unfolding filled
filled-more first n content cells = rw add-one refl

pub filled_size : (first n : ℕ) (content : Cell) (cells : List Cell) → length (filled first n content cells) ≡ length cells
unfolding filled
filled_size first zero content cells = refl
filled_size first (suc n) content cells = length-set (filled first n content cells) (first + n) content ∙ filled_size first n content cells

-- a page that is none of these is as it was
pub filled_other : (first n : ℕ) (content : Cell) (cells : List Cell) (k : ℕ) → (k < first) ⊎ (first + n ≤ k) → slice_get (filled first n content cells) k ≡ slice_get cells k
unfolding filled
filled_other first zero content cells k h = refl
filled_other first (suc n) content cells k (inl below) =
    slice_get-set_other (filled first n content cells) (first + n) k content (λ e. absurd (omega arith)) ∙ filled_other first n content cells k (inl below)
filled_other first (suc n) content cells k (inr above) =
    slice_get-set_other (filled first n content cells) (first + n) k content (λ e. absurd (omega arith)) ∙ filled_other first n content cells k (inr (omega arith))

-- each of these pages is that cell
pub filled_inside : (first n : ℕ) (content : Cell) (cells : List Cell) (k : ℕ) → first + n ≤ length cells → first ≤ k → k < first + n → slice_get (filled first n content cells) k ≡ Some content
unfolding filled
filled_inside first zero content cells k fits least most = absurd (omega arith)
filled_inside first (suc n) content cells k fits least most = elim (cases_eq k (first + n)) [
  | inl here ↦ rw here (slice_get-set_same (filled first n content cells) (first + n) content (omega (arith, filled_size first n content cells)))
  | inr other ↦ slice_get-set_other (filled first n content cells) (first + n) k content other ∙ filled_inside first n content cells k (omega arith) least (let apart : k ≢ first + n = other in omega arith)
]

pub filled_outside : (g : Geometry) (unit : ℕ) (content : Cell) (cells : List Cell) → IsSameOutside g unit cells (filled (first_page g unit) g.unit_pages content cells)
filled_outside g unit content cells = record {
  size = filled_size (first_page g unit) g.unit_pages content cells;
  below = λ k h. filled_other (first_page g unit) g.unit_pages content cells k (inl h);
  above = λ k h. filled_other (first_page g unit) g.unit_pages content cells k (inr h);
}

-- a unit that was made blank is erased
pub filled_erases : (g : Geometry) (unit : ℕ) (cells : List Cell) → first_page g unit + g.unit_pages ≤ length cells →
    IsErased g cells unit (filled (first_page g unit) g.unit_pages Blank cells)
filled_erases g unit cells fits = record {
  others = filled_outside g unit Blank cells;
  blank = record { blank = λ page h. filled_inside (first_page g unit) g.unit_pages Blank cells (first_page g unit + page) fits (omega arith) (omega arith) };
}

-- a unit that was made torn is one that an erase may leave
pub filled_torn : (g : Geometry) (unit : ℕ) (cells : List Cell) → first_page g unit + g.unit_pages ≤ length cells →
    EraseMayLeave g cells unit (filled (first_page g unit) g.unit_pages Torn cells)
filled_torn g unit cells fits = record {
  others = filled_outside g unit Torn cells;
  pages = λ page h. inr (inr (filled_inside (first_page g unit) g.unit_pages Torn cells (first_page g unit + page) fits (omega arith) (omega arith)));
}

-- an erase may leave all pages as they were
pub erase_unchanged : (g : Geometry) (unit : ℕ) (cells : List Cell) → EraseMayLeave g cells unit cells
erase_unchanged g unit cells = record { others = same_outside_refl g unit cells; pages = λ page h. inl refl }
