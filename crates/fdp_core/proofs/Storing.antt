-- What the flash holds after a page was programmed, or was to be.
use Rattle.std.proofs.Common.{◌≡◌, ◌≢◌, ℕ, ◌+◌, ◌<◌, Bool, true, false, List, Option, Some, refl, sym, ◌∙◌, ap, subst, arith, ⊎_elim}
use Rattle.std.specs.Prelude.{IsFalse, slice_get, slice_set, if◌then◌else◌}
use Rattle.std.proofs.lemmas.Bool.{cases_eq}
use Rattle.std.proofs.lemmas.Option.{slice_get_within}
use Rattle.fdp_base.specs.declared.config.Geometry.{Geometry}
use Rattle.fdp_base.specs.declared.entry.Spot.{Spot}
use Rattle.fdp_base.specs.Spare.{data_spare}
use Rattle.fdp_relocation.specs.fdp_collector.Copying.{Holds, IsDataPage}
use Rattle.fdp_relocation.specs.fdp_collector.Ready.{IsBlankBehind}
use Rattle.fdp_relocation.proofs.fdp_collector.Kept.{changed-here, changed-other, unit-was}
use Rattle.fdp_flash.specs.declared.cell.Cell.{Cell}
use Rattle.fdp_flash.specs.declared.cell.Cell.TheVariants.{Blank, Whole}
use Rattle.fdp_flash.specs.Cells.{IsBlankFrom, ProgramMayLeave}
use Rattle.fdp_flash.specs.Layout.{page_number}
use Rattle.fdp_flash.proofs.Lists.{slice_get-set_other, slice_get-set_same}
use Rattle.fdp_flash.proofs.Pages.{program_behind, program_other, program_other_unit}
use Rattle.fdp_relocation.specs.fdp_locations.Stored.{HoldsWritten}
use Rattle.fdp_relocation.specs.fdp_locations.Written.{Written, with_written}
use Rattle.fdp_pointers.proofs.Copies.{same-spot}
use Rattle.fdp_rules.specs.Sites.{is_spot}
use Rattle.fdp_units.specs.declared.data_unit.DataUnit.{DataUnit}
use Rattle.fdp_units.specs.DataUnits.{is_lost}
use Rattle.fdp_units.specs.UnitTable.{Changes, IsUnit, UnitTable, state_at, unit_at}

-- ---- what is blank

-- the next page of a unit was programmed, or was to be: those behind it are blank still
pub blank-used : (g : Geometry) (old new : List Cell) (t now : UnitTable) (at : Spot) (x : DataUnit) (spare bytes : List ℕ) → IsBlankBehind g old t → at.page < g.unit_pages → IsUnit t at.unit → IsFalse (is_lost (state_at t at.unit)) → at.page ≡ (unit_at t at.unit).next → x.next ≡ at.page + 1 → Changes t now at.unit x → ProgramMayLeave g old at spare bytes new → IsBlankBehind g new now
blank-used g old new t now at x spare bytes blank within there kept next later change left unit is lost =
    ⊎_elim
    (λ (same : unit ≡ at.unit).
    let first : IsBlankFrom g old at = subst (λ (page : ℕ). IsBlankFrom g old (record { unit = at.unit; page = page })) (sym next) (blank at.unit there kept) in
    let page : (unit_at now unit).next ≡ at.page + 1 = ap (λ (u : ℕ). (unit_at now u).next) same ∙ ap (λ (z : DataUnit). z.next) (changed-here t now at.unit x change) ∙ later in
    program_behind g old at spare bytes new (record { unit = unit; page = (unit_at now unit).next }) left first same (omega (arith, page)))
    (λ (other : unit ≢ at.unit).
    let kind : unit_at now unit ≡ unit_at t unit = changed-other t now at.unit unit x change other in
    let was = blank unit (unit-was t now unit change.cut is) (ap (λ (z : DataUnit). is_lost z.state) (sym kind) ∙ lost) in
    let next_is : (unit_at now unit).next ≡ (unit_at t unit).next = ap (λ (z : DataUnit). z.next) kind in
    record { blank = λ page low most. program_other_unit g old at spare bytes new unit left within (λ e. other (sym e)) page most ∙ was.blank page (omega (arith, low, next_is)) most })
    (cases_eq unit at.unit)

-- ---- what is written

-- the page that is to be programmed is blank
pub free-page : (g : Geometry) (cells : List Cell) (t : UnitTable) (at : Spot) → IsBlankBehind g cells t → at.page < g.unit_pages → IsUnit t at.unit → IsFalse (is_lost (state_at t at.unit)) → at.page ≡ (unit_at t at.unit).next → slice_get cells (page_number g at) ≡ Some Blank
free-page g cells t at blank within there kept next = (blank at.unit there kept).blank at.page (omega (arith, next)) within

never : (spare bytes : List ℕ) → Some Blank ≡ Some (Whole spare bytes) → ⊥
never spare bytes e = cc

module _ (g : Geometry) (old new : List Cell) (written : Spot → Option Written) (t now : UnitTable) (blank : IsBlankBehind g new now) (h : HoldsWritten g old written t) (to : Spot) (free : slice_get old (page_number g to) ≡ Some Blank) where
  away : (spot : Spot) (x : Written) → written spot ≡ Some x → page_number g spot ≢ page_number g to
  away spot x e same = never (data_spare x.spare) x.bytes (sym free ∙ ap (slice_get old) (sym same) ∙ h.whole spot x e)

  -- it got a page
  pub holds-put : (page : Written) → IsDataPage g to → new ≡ slice_set old (page_number g to) (Whole (data_spare page.spare) page.bytes) → HoldsWritten g new (with_written written to (Some page)) now
  holds-put page there is = record {
    lie = λ spot x e. lies spot x (is_spot spot to) refl e;
    whole = λ spot x e. holds spot x (is_spot spot to) refl e;
    blank = blank;
  }
    where
      lies : (spot : Spot) (x : Written) (b : Bool) → is_spot spot to ≡ b → (if b then Some page else written spot) ≡ Some x → IsDataPage g spot
      lies spot x true same e = subst (IsDataPage g) (sym (same-spot spot to same)) there
      lies spot x false same e = h.lie spot x e

      holds : (spot : Spot) (x : Written) (b : Bool) → is_spot spot to ≡ b → (if b then Some page else written spot) ≡ Some x → Holds g new spot (data_spare x.spare) x.bytes
      holds spot x true same e =
          let one : page ≡ x = cc in
          subst (λ (y : Written). Holds g new spot (data_spare y.spare) y.bytes) one
          (ap (λ (at : Spot). slice_get new (page_number g at)) (same-spot spot to same)
          ∙ ap (λ (cells : List Cell). slice_get cells (page_number g to)) is
          ∙ slice_get-set_same old (page_number g to) (Whole (data_spare page.spare) page.bytes) (slice_get_within old (page_number g to) Blank free))
      holds spot x false same e =
          ap (λ (cells : List Cell). slice_get cells (page_number g spot)) is
          ∙ slice_get-set_other old (page_number g to) (page_number g spot) (Whole (data_spare page.spare) page.bytes) (away spot x e)
          ∙ h.whole spot x e

  -- its program failed
  pub holds-unput : (spare bytes : List ℕ) → ProgramMayLeave g old to spare bytes new → HoldsWritten g new written now
  holds-unput spare bytes left = record {
    lie = h.lie;
    whole = λ spot x e. program_other g old to spare bytes new (page_number g spot) left (away spot x e) ∙ h.whole spot x e;
    blank = blank;
  }
