-- Units that are erased one after another.
use Rattle.std.proofs.Common.{◌≡◌, ◌≢◌, ◌⊎◌, ℕ, ◌+◌, ◌-◌, ◌<◌, ◌≤◌, IsTrue, List, Some, arith, refl, ◌∙◌, inl, inr}
use Rattle.std.specs.List.{slice_get}
use Rattle.std.proofs.lemmas.Bool.{cases_lt, cases_eq}
use Rattle.std.proofs.lemmas.Nat.{row_fits}
use Rattle.fdp_base.specs.declared.config.Geometry.{Geometry}
use Rattle.fdp_flash.specs.declared.cell.Cell.{Cell}
use Rattle.fdp_flash.specs.declared.cell.Cell.TheVariants.{Blank, Torn}
use Rattle.fdp_flash.specs.declared.answer.Wrote.{Wrote}
use Rattle.fdp_flash.specs.declared.answer.Wrote.TheVariants.{Done}
use Rattle.fdp_flash.specs.Answers.{Erases}
use Rattle.fdp_flash.specs.Area.{AreaMayLeave, IsBlankArea}
use Rattle.fdp_flash.specs.Cells.{EraseMayLeave, IsErased}
use Rattle.fdp_flash.specs.FlashState.{FlashState, Begins}
use Rattle.fdp_flash.specs.Layout.{first_page}
use Rattle.fdp_flash.specs.Runs.{Holds}
use Rattle.fdp_flash.proofs.Held.{holds_at_start, holds_after_erase}

-- a later unit begins behind all pages of an earlier one
unit_before : (g : Geometry) (unit later : ℕ) → unit < later → first_page g unit + g.unit_pages ≤ first_page g later
unit_before g unit later less = row_fits unit g.unit_pages later g.unit_pages less (omega arith)

unit_not_after : (g : Geometry) (unit later : ℕ) → unit ≤ later → first_page g unit ≤ first_page g later
unit_not_after g unit later h = elim (cases_eq unit later) [
  | inl same ↦ rw same (omega arith)
  | inr other ↦ let less : unit < later = (let apart : unit ≢ later = other in omega arith) in let before = unit_before g unit later less in omega arith
]

pub area_unchanged : (g : Geometry) (first count : ℕ) (cells : List Cell) → AreaMayLeave g first count cells cells
area_unchanged g first count cells = record { size = refl; below = λ k h. refl; above = λ k h. refl; inside = λ k. inl refl }

-- before the first erase
pub area_begins : (s : FlashState) (first count : ℕ) → Holds (AreaMayLeave s.geometry first count s.cells) s s
area_begins s first count = holds_at_start _ s (λ told. area_unchanged s.geometry first count s.cells)

-- each page after an erase that stopped is as it was, blank or torn
pub inside_erase : (g : Geometry) (cells : List Cell) (unit : ℕ) (new : List Cell) (k : ℕ) → EraseMayLeave g cells unit new →
    (slice_get new k ≡ slice_get cells k) ⊎ (slice_get new k ≡ Some Blank) ⊎ (slice_get new k ≡ Some Torn)
inside_erase g cells unit new k p = elim (cases_lt k (first_page g unit)) [
  | inl below ↦ inl (p.others.below k below)
  | inr least ↦ elim (cases_lt k (first_page g unit + g.unit_pages)) [
    | inl within ↦ (
        let page : k - first_page g unit < g.unit_pages = omega arith in
        let same : first_page g unit + (k - first_page g unit) ≡ k = omega arith in
        rw same at (p.pages (k - first_page g unit) page)
        )
    | inr above ↦ inl (p.others.above k above)
  ]
]

-- an erase of one of these units more
pub area_erased : (g : Geometry) (first count : ℕ) (start cells : List Cell) (unit : ℕ) (new : List Cell) → first ≤ unit → unit < first + count →
    AreaMayLeave g first count start cells → EraseMayLeave g cells unit new → AreaMayLeave g first count start new
area_erased g first count start cells unit new least most p e =
    let begins = unit_not_after g first unit least in
    let ends = unit_before g unit (first + count) most in
    record {
      size = e.others.size ∙ p.size;
      below = λ k h. e.others.below k (omega arith) ∙ p.below k h;
      above = λ k h. e.others.above k (omega arith) ∙ p.above k h;
      inside = λ k. elim (inside_erase g cells unit new k e) [
        | inl same ↦ elim (p.inside k) [
          | inl before ↦ inl (same ∙ before)
          | inr left ↦ elim left [ inl blank ↦ inr (inl (same ∙ blank)) | inr torn ↦ inr (inr (same ∙ torn)) ]
        ]
        | inr left ↦ inr left
      ];
    }

-- the units before are blank, and this one is now
pub area_blank_more : (g : Geometry) (first i : ℕ) (cells new : List Cell) → IsBlankArea g first i cells → IsErased g cells (first + i) new → IsBlankArea g first (i + 1) new
area_blank_more g first i cells new p e unit least most = elim (cases_eq unit (first + i)) [
  | inl same ↦ rw same e.blank
  | inr other ↦ (
      let less : unit < first + i = (let apart : unit ≢ first + i = other in omega arith) in
      let before = unit_before g unit (first + i) less in
      record { blank = λ page h. e.others.below (first_page g unit + page) (omega arith) ∙ (p unit least less).blank page h }
      )
]

-- one erase more of a run of erases
pub area_held : (start now new : FlashState) (first count unit : ℕ) (result : Wrote) → Holds (AreaMayLeave start.geometry first count start.cells) start now →
    first ≤ unit → unit < first + count → Begins now new → Erases now new unit result → Holds (AreaMayLeave start.geometry first count start.cells) start new
area_held start now new first count unit result held least most b e =
    holds_after_erase _ start now new unit result held b e (λ before left may. area_erased start.geometry first count start.cells now.cells unit left least most before may)

pub area_blank : (start now new : FlashState) (first count i : ℕ) → Holds (AreaMayLeave start.geometry first count start.cells) start now →
    (IsTrue start.told → IsBlankArea start.geometry first i now.cells) → Erases now new (first + i) Done →
    IsTrue start.told → IsBlankArea start.geometry first (i + 1) new.cells
area_blank start now new first count i held blank e told =
    area_blank_more start.geometry first i now.cells new.cells (blank told) (rw held.run.geometry at (e.done (rw held.run.told told) refl))
