-- Units that are all blank, before and after what calls leave of the cells.
use Rattle.std.proofs.Common.{◌≡◌, ◌≢◌, ℕ, ◌+◌, ◌<◌, true, false, ◌||◌, List, [], ◌∷◌, ◌++◌, Some, sym, ◌∙◌, ap, subst, ⊎_elim}
use Rattle.std.specs.Prelude.{slice_get, slice_set}
use Rattle.std.specs.List.{list_any}
use Rattle.std.proofs.lemmas.Bool.{cases_eq}
use Rattle.std.proofs.lemmas.List.Folds.{list_any-append}
use Rattle.std.proofs.lemmas.Option.{slice_get_within}
use Rattle.fdp_base.specs.declared.config.Geometry.{Geometry}
use Rattle.fdp_base.specs.declared.entry.Entry.{Entry}
use Rattle.fdp_base.specs.declared.entry.Spot.{Spot}
use Rattle.fdp_calls.proofs.Made.{any-first, any-second}
use Rattle.fdp_book.specs.fdp_collector.Copying.{IsSameBut}
use Rattle.fdp_flash.specs.declared.cell.Cell.{Cell}
use Rattle.fdp_flash.specs.declared.cell.Cell.TheVariants.{Blank, Whole}
use Rattle.fdp_flash.specs.Cells.{IsBlankUnit, IsSameOutside, ProgramMayLeave}
use Rattle.fdp_flash.specs.Layout.{first_page, page_number}
use Rattle.fdp_flash.proofs.Lists.{slice_get-set_other, slice_get-set_same}
use Rattle.fdp_flash.proofs.Pages.{same_outside_page}
use Rattle.fdp_ledger.specs.Emptied.{OnlyErasesEmpty}
use Rattle.fdp_ledger.specs.Told.{is_erase}

-- each unit that is all blank was so
abbrev pub IsNoneEmptied : Geometry → List Cell → List Cell → Type 0
IsNoneEmptied g old new = (unit : ℕ) → IsBlankUnit g new unit → IsBlankUnit g old unit

-- where one page may have changed, and is blank only where it was
pub none-emptied : (g : Geometry) (old new : List Cell) (spot : Spot) → IsSameBut g spot old new → (slice_get new (page_number g spot) ≡ Some Blank → slice_get old (page_number g spot) ≡ Some Blank) → IsNoneEmptied g old new
none-emptied g old new spot same here unit h = record {
  blank = λ page within. ⊎_elim
      (λ (is : first_page g unit + page ≡ page_number g spot). ap (slice_get old) is ∙ here (ap (slice_get new) (sym is) ∙ h.blank page within))
      (λ (ne : first_page g unit + page ≢ page_number g spot). sym (same (first_page g unit + page) ne) ∙ h.blank page within)
      (cases_eq (first_page g unit + page) (page_number g spot));
}

-- no page changed
pub same-emptied : (g : Geometry) (old new : List Cell) → new ≡ old → IsNoneEmptied g old new
same-emptied g old new same unit h = subst (λ (cells : List Cell). IsBlankUnit g cells unit) same h

-- a page that is whole
pub whole-unblank : (g : Geometry) (cells : List Cell) (spot : Spot) (spare bytes : List ℕ) → spot.page < g.unit_pages → slice_get cells (page_number g spot) ≡ Some (Whole spare bytes) → IsBlankUnit g cells spot.unit → ⊥
whole-unblank g cells spot spare bytes within whole h = let blank : Some (Whole spare bytes) ≡ Some Blank = sym whole ∙ h.blank spot.page within in absurd cc

module _ (g : Geometry) (old new : List Cell) (spot : Spot) (spare bytes : List ℕ) (blank : slice_get old (page_number g spot) ≡ Some Blank) where
  -- a blank page was programmed
  pub programmed-whole : new ≡ slice_set old (page_number g spot) (Whole spare bytes) → slice_get new (page_number g spot) ≡ Some (Whole spare bytes)
  programmed-whole is = ap (λ (cells : List Cell). slice_get cells (page_number g spot)) is ∙ slice_get-set_same old (page_number g spot) (Whole spare bytes) (slice_get_within old (page_number g spot) Blank blank)

  pub programmed-emptied : new ≡ slice_set old (page_number g spot) (Whole spare bytes) → IsNoneEmptied g old new
  programmed-emptied is =
      none-emptied g old new spot (λ k ne. ap (λ (cells : List Cell). slice_get cells k) is ∙ slice_get-set_other old (page_number g spot) k (Whole spare bytes) ne)
      (λ none. blank)

  -- or its program failed
  pub failed-emptied : ProgramMayLeave g old spot spare bytes new → IsNoneEmptied g old new
  failed-emptied left =
      none-emptied g old new spot (λ k ne. ap (λ (cells : List Cell). slice_get cells k) left.cells ∙ slice_get-set_other old (page_number g spot) k left.cell ne)
      (λ none. blank)

-- a unit was erased, or was to be: each other one is as it was
pub outside-emptied : (g : Geometry) (old new : List Cell) (unit other : ℕ) → IsSameOutside g unit old new → other ≢ unit → IsBlankUnit g new other → IsBlankUnit g old other
outside-emptied g old new unit other same ne h = record { blank = λ page within. sym (same_outside_page g unit old new (record { unit = other; page = page }) same within ne) ∙ h.blank page within }

-- ---- which entries tell of it

pub emptied-none : (g : Geometry) (old new : List Cell) (es : List Entry) → IsNoneEmptied g old new → OnlyErasesEmpty g old new es
emptied-none g old new es h = record { was = λ unit within blank none. h unit blank }

-- steps one after another
pub emptied-joined : (g : Geometry) (old middle new : List Cell) (xs ys : List Entry) → OnlyErasesEmpty g old middle xs → OnlyErasesEmpty g middle new ys → OnlyErasesEmpty g old new (xs ++ ys)
emptied-joined g old middle new xs ys first second = record {
  was = λ unit within blank none.
      let parts : (list_any (is_erase unit) xs || list_any (is_erase unit) ys) ≡ false = sym (list_any-append (is_erase unit) xs ys) ∙ none in
      first.was unit within (second.was unit within blank (any-second (list_any (is_erase unit) xs) (list_any (is_erase unit) ys) parts)) (any-first (list_any (is_erase unit) xs) (list_any (is_erase unit) ys) parts);
}

-- an entry of an erase, or of one that failed
pub emptied-erase : (g : Geometry) (old new : List Cell) (e : Entry) (unit : ℕ) → is_erase unit e ≡ true → IsSameOutside g unit old new → OnlyErasesEmpty g old new (e ∷ [])
emptied-erase g old new e unit tells same = record {
  was = λ other within blank none. ⊎_elim
      (λ (is : other ≡ unit). absurd (no (sym tells ∙ ap (λ (u : ℕ). is_erase u e) (sym is) ∙ any-first (is_erase other e) false none)))
      (λ (ne : other ≢ unit). outside-emptied g old new unit other same ne blank)
      (cases_eq other unit);
} where
  no : true ≡ false → ⊥
  no e = cc
