-- What one call leaves of the pages.
use Rattle.std.proofs.Common.{◌≡◌, ◌≢◌, ◌⊎◌, ℕ, ◌+◌, ◌-◌, ◌*◌, ◌<◌, ◌≤◌, List, length, Some, arith, refl, inl, inr, ◌∙◌}
use Rattle.std.specs.List.{slice_get}
use Rattle.std.proofs.lemmas.Bool.{cases_lt}
use Rattle.std.proofs.lemmas.List.{length-set}
use Rattle.std.proofs.Math.Nat.{mul_comm}
use Rattle.std.proofs.lemmas.Nat.{row_fits, same_from_place}
use Rattle.fdp_base.specs.declared.config.Geometry.{Geometry}
use Rattle.fdp_base.specs.declared.entry.Spot.{Spot}
use Rattle.fdp_flash.specs.declared.cell.Cell.{Cell}
use Rattle.fdp_flash.specs.declared.cell.Cell.TheVariants.{Blank, Torn, Whole}
use Rattle.fdp_flash.specs.Cells.{IsBlankFrom, IsBlankUnit, IsSameOutside, IsProgrammed, IsErased, ProgramMayLeave, EraseMayLeave}
use Rattle.fdp_base.specs.Geometry.{all_pages, all_units}
use Rattle.fdp_flash.specs.Layout.{IsIn, first_page, page_number}
use Rattle.fdp_flash.proofs.Lists.{slice_get-set_same, slice_get-set_other}

-- all pages of a unit are pages of the flash
pub unit_fits : (g : Geometry) (unit : ℕ) → unit < all_units g → first_page g unit + g.unit_pages ≤ all_pages g
unit_fits g unit h = rw (mul_comm g.unit_pages (all_units g)) (row_fits unit g.unit_pages (all_units g) g.unit_pages h (omega arith))

-- the number of a page is below that of all pages
pub page_number-below : (g : Geometry) (at : Spot) → IsIn g at → page_number g at < all_pages g
page_number-below g at h = let fits = unit_fits g at.unit h.unit in let page = h.page in omega arith

-- two pages with one number are one page
pub page_number-injective : (g : Geometry) (a b : Spot) → a.page < g.unit_pages → b.page < g.unit_pages → page_number g a ≡ page_number g b → (a.unit ≡ b.unit) × (a.page ≡ b.page)
page_number-injective g a b p q e = same_from_place a.unit a.page b.unit b.page g.unit_pages p q e

-- a page of another unit stands below or above all pages of this one
pub other_unit : (g : Geometry) (unit : ℕ) (at : Spot) → at.page < g.unit_pages → at.unit ≢ unit →
    (page_number g at < first_page g unit) ⊎ (first_page g unit + g.unit_pages ≤ page_number g at)
other_unit g unit at p n = elim (cases_lt at.unit unit) [
  | inl less ↦ inl (let fits : at.unit * g.unit_pages + g.unit_pages ≤ unit * g.unit_pages = row_fits at.unit g.unit_pages unit g.unit_pages less (omega arith) in omega arith)
  | inr more ↦ inr (let above : unit < at.unit = omega arith in let fits : unit * g.unit_pages + g.unit_pages ≤ at.unit * g.unit_pages = row_fits unit g.unit_pages at.unit g.unit_pages above (omega arith) in omega arith)
]

-- the page that was programmed
pub programmed_page : (g : Geometry) (old : List Cell) (at : Spot) (spare bytes : List ℕ) (new : List Cell) →
    page_number g at < length old → IsProgrammed g old at spare bytes new → slice_get new (page_number g at) ≡ Some (Whole spare bytes)
programmed_page g old at spare bytes new h p = rw p (slice_get-set_same old (page_number g at) (Whole spare bytes) h)

-- a done program leaves what a stop may leave
pub programmed_may_leave : (g : Geometry) (old : List Cell) (at : Spot) (spare bytes : List ℕ) (new : List Cell) →
    IsProgrammed g old at spare bytes new → ProgramMayLeave g old at spare bytes new
programmed_may_leave g old at spare bytes new p = record { cell = Whole spare bytes; page = inr (inr refl); cells = p }

-- a page that a program does not touch
pub program_other : (g : Geometry) (old : List Cell) (at : Spot) (spare bytes : List ℕ) (new : List Cell) (k : ℕ) →
    ProgramMayLeave g old at spare bytes new → k ≢ page_number g at → slice_get new k ≡ slice_get old k
program_other g old at spare bytes new k p n = rw p.cells (slice_get-set_other old (page_number g at) k p.cell n)

-- a program leaves as many pages as there were
pub program_size : (g : Geometry) (old : List Cell) (at : Spot) (spare bytes : List ℕ) (new : List Cell) →
    ProgramMayLeave g old at spare bytes new → length new ≡ length old
program_size g old at spare bytes new p = rw p.cells (length-set old (page_number g at) p.cell)

-- the page of a program is blank, torn or whole after it
pub program_page : (g : Geometry) (old : List Cell) (at : Spot) (spare bytes : List ℕ) (new : List Cell) →
    page_number g at < length old → ProgramMayLeave g old at spare bytes new →
    (slice_get new (page_number g at) ≡ Some Blank) ⊎ (slice_get new (page_number g at) ≡ Some Torn) ⊎ (slice_get new (page_number g at) ≡ Some (Whole spare bytes))
program_page g old at spare bytes new h p =
    let here : slice_get new (page_number g at) ≡ Some p.cell = rw p.cells (slice_get-set_same old (page_number g at) p.cell h) in
    elim p.page [ inl e ↦ inl (cc) | inr rest ↦ elim rest [ inl e ↦ inr (inl (cc)) | inr e ↦ inr (inr (cc)) ] ]

-- a program leaves the pages behind its own blank, so the next ones may be programmed
pub program_behind : (g : Geometry) (old : List Cell) (at : Spot) (spare bytes : List ℕ) (new : List Cell) (next : Spot) →
    ProgramMayLeave g old at spare bytes new → IsBlankFrom g old at → next.unit ≡ at.unit → at.page < next.page → IsBlankFrom g new next
program_behind g old at spare bytes new next p h u n = record {
  blank = λ page least most.
      rw u (program_other g old at spare bytes new (first_page g at.unit + page) p (λ e. absurd (omega arith)) ∙ h.blank page (omega arith) most);
}

-- a program touches no page of another unit
pub program_other_unit : (g : Geometry) (old : List Cell) (at : Spot) (spare bytes : List ℕ) (new : List Cell) (unit : ℕ) →
    ProgramMayLeave g old at spare bytes new → at.page < g.unit_pages → at.unit ≢ unit → (page : ℕ) → page < g.unit_pages →
    slice_get new (first_page g unit + page) ≡ slice_get old (first_page g unit + page)
program_other_unit g old at spare bytes new unit p inside n page h =
    program_other g old at spare bytes new (first_page g unit + page) p
    (λ e. elim (other_unit g unit at inside n) [ inl less ↦ omega arith | inr more ↦ omega arith ])

-- a blank unit may be programmed from any of its pages on
pub blank_from_unit : (g : Geometry) (cells : List Cell) (at : Spot) → IsBlankUnit g cells at.unit → IsBlankFrom g cells at
blank_from_unit g cells at h = record { blank = λ page least most. h.blank page most }

-- a unit all of whose pages are blank from page 0 on is blank
pub blank_unit_from : (g : Geometry) (cells : List Cell) (at : Spot) → at.page ≡ 0 → IsBlankFrom g cells at → IsBlankUnit g cells at.unit
blank_unit_from g cells at e h = record { blank = λ page most. h.blank page (omega arith) most }

-- a page behind another one may be programmed where that one may
pub blank_from_later : (g : Geometry) (cells : List Cell) (at next : Spot) → IsBlankFrom g cells at → next.unit ≡ at.unit → at.page ≤ next.page → IsBlankFrom g cells next
blank_from_later g cells at next h u n = record { blank = λ page least most. rw u (h.blank page (omega arith) most) }

-- nothing changed
pub same_outside_refl : (g : Geometry) (unit : ℕ) (cells : List Cell) → IsSameOutside g unit cells cells
same_outside_refl g unit cells = record { size = refl; below = λ k h. refl; above = λ k h. refl }

-- two changes of one unit
pub same_outside_joined : (g : Geometry) (unit : ℕ) (a b c : List Cell) → IsSameOutside g unit a b → IsSameOutside g unit b c → IsSameOutside g unit a c
same_outside_joined g unit a b c p q = record {
  size = q.size ∙ p.size;
  below = λ k h. q.below k h ∙ p.below k h;
  above = λ k h. q.above k h ∙ p.above k h;
}

-- a page of another unit is as it was
pub same_outside_page : (g : Geometry) (unit : ℕ) (old new : List Cell) (at : Spot) → IsSameOutside g unit old new → at.page < g.unit_pages → at.unit ≢ unit →
    slice_get new (page_number g at) ≡ slice_get old (page_number g at)
same_outside_page g unit old new at p inside n = elim (other_unit g unit at inside n) [
  | inl less ↦ p.below (page_number g at) less
  | inr more ↦ p.above (page_number g at) more
]

-- a done erase leaves what a stop may leave
pub erased_may_leave : (g : Geometry) (old : List Cell) (unit : ℕ) (new : List Cell) → IsErased g old unit new → EraseMayLeave g old unit new
erased_may_leave g old unit new p = record { others = p.others; pages = λ page h. inr (inl (p.blank.blank page h)) }

-- an erase leaves a blank page blank or torn
pub erase_blank_page : (g : Geometry) (old : List Cell) (unit : ℕ) (new : List Cell) (page : ℕ) → EraseMayLeave g old unit new → page < g.unit_pages →
    slice_get old (first_page g unit + page) ≡ Some Blank →
    (slice_get new (first_page g unit + page) ≡ Some Blank) ⊎ (slice_get new (first_page g unit + page) ≡ Some Torn)
erase_blank_page g old unit new page p h b = elim (p.pages page h) [ inl e ↦ inl (e ∙ b) | inr rest ↦ rest ]

-- the pages from one of a unit up to its end, by their numbers
pub blank_from_numbers : (g : Geometry) (cells : List Cell) (at : Spot) →
    ((k : ℕ) → page_number g at ≤ k → k < first_page g at.unit + g.unit_pages → slice_get cells k ≡ Some Blank) → IsBlankFrom g cells at
blank_from_numbers g cells at h = record { blank = λ page least most. h (first_page g at.unit + page) (omega arith) (omega arith) }

pub numbers_from_blank : (g : Geometry) (cells : List Cell) (at : Spot) → IsBlankFrom g cells at →
    (k : ℕ) → page_number g at ≤ k → k < first_page g at.unit + g.unit_pages → slice_get cells k ≡ Some Blank
numbers_from_blank g cells at h k least most =
    let same : first_page g at.unit + (k - first_page g at.unit) ≡ k = omega arith in
    rw same at (h.blank (k - first_page g at.unit) (omega arith) (omega arith))

-- a blank unit stays blank while pages of other units are programmed
pub blank_unit_program : (g : Geometry) (old : List Cell) (at : Spot) (spare bytes : List ℕ) (new : List Cell) (unit : ℕ) →
    ProgramMayLeave g old at spare bytes new → at.page < g.unit_pages → at.unit ≢ unit → IsBlankUnit g old unit → IsBlankUnit g new unit
blank_unit_program g old at spare bytes new unit p inside n blank = record {
  blank = λ page h. program_other_unit g old at spare bytes new unit p inside n page h ∙ blank.blank page h;
}

-- a blank unit stays blank while other units are erased
pub blank_unit_erase : (g : Geometry) (old : List Cell) (erased : ℕ) (new : List Cell) (unit : ℕ) →
    EraseMayLeave g old erased new → unit ≢ erased → IsBlankUnit g old unit → IsBlankUnit g new unit
blank_unit_erase g old erased new unit p n blank = record {
  blank = λ page h. same_outside_page g erased old new (record { unit = unit; page = page }) p.others h n ∙ blank.blank page h;
}
