-- What a flash holds after a step of relocation.
use Rattle.std.proofs.Common.{◌≡◌, ◌≢◌, ℕ, Bool, true, false, List, Option, Some, refl, sym, ◌∙◌, ap, subst}
use Rattle.std.specs.Prelude.{slice_get, if◌then◌else◌}
use Rattle.std.proofs.lemmas.Option.{slice_get_within}
use Rattle.fdp_base.specs.declared.config.Geometry.{Geometry}
use Rattle.fdp_base.specs.declared.entry.Spot.{Spot}
use Rattle.fdp_base.specs.Spare.{data_spare}
use Rattle.fdp_pages.specs.fdp_collector.Copying.{Holds, IsCopied, IsDataPage, IsSameBut}
use Rattle.fdp_pages.specs.fdp_collector.Ready.{IsBlankBehind}
use Rattle.fdp_flash.specs.declared.cell.Cell.{Cell}
use Rattle.fdp_flash.specs.declared.cell.Cell.TheVariants.{Blank, Whole}
use Rattle.fdp_flash.specs.Cells.{EraseMayLeave}
use Rattle.fdp_flash.specs.Layout.{page_number}
use Rattle.fdp_flash.proofs.Lists.{slice_get-set_other, slice_get-set_same}
use Rattle.fdp_flash.proofs.Pages.{same_outside_page}
use Rattle.fdp_locations.specs.Stored.{HoldsWritten}
use Rattle.fdp_locations.specs.Written.{Written, with_written, without_unit}
use Rattle.fdp_locations.proofs.Relocated.{without-before}
use Rattle.fdp_pointers.proofs.Copies.{same-spot}
use Rattle.fdp_rules.specs.Sites.{is_spot}
use Rattle.fdp_units.specs.UnitTable.{UnitTable}

never : (spare bytes : List ℕ) → Some Blank ≡ Some (Whole spare bytes) → ⊥
never spare bytes e = cc

module _ (g : Geometry) (old new : List Cell) (written : Spot → Option Written) (t now : UnitTable) (blank : IsBlankBehind g new now) (h : HoldsWritten g old written t) where
  -- no page changed
  pub holds-still : new ≡ old → HoldsWritten g new written now
  holds-still same = record { lie = h.lie; whole = λ spot x e. ap (λ (cells : List Cell). slice_get cells (page_number g spot)) same ∙ h.whole spot x e; blank = blank }

  -- one page may have changed that was blank
  module _ (to : Spot) (free : slice_get old (page_number g to) ≡ Some Blank) where
    away : (spot : Spot) (x : Written) → written spot ≡ Some x → page_number g spot ≢ page_number g to
    away spot x e same = never (data_spare x.spare) x.bytes (sym free ∙ ap (slice_get old) (sym same) ∙ h.whole spot x e)

    pub holds-others : IsSameBut g to old new → HoldsWritten g new written now
    holds-others same = record { lie = h.lie; whole = λ spot x e. same (page_number g spot) (away spot x e) ∙ h.whole spot x e; blank = blank }

    -- it got a copy
    pub holds-copied : (from : Spot) (spare : List ℕ) → IsDataPage g to → IsCopied g from to spare old new → HoldsWritten g new (with_written written to (written from)) now
    holds-copied from spare there copied = record {
      lie = λ spot x e. lies spot x (is_spot spot to) refl e;
      whole = λ spot x e. holds spot x (is_spot spot to) refl e;
      blank = blank;
    }
      where
        lies : (spot : Spot) (x : Written) (b : Bool) → is_spot spot to ≡ b → (if b then written from else written spot) ≡ Some x → IsDataPage g spot
        lies spot x true same e = subst (IsDataPage g) (sym (same-spot spot to same)) there
        lies spot x false same e = h.lie spot x e

        holds : (spot : Spot) (x : Written) (b : Bool) → is_spot spot to ≡ b → (if b then written from else written spot) ≡ Some x → Holds g new spot (data_spare x.spare) x.bytes
        holds spot x true same e =
            ap (λ (at : Spot). slice_get new (page_number g at)) (same-spot spot to same)
            ∙ ap (λ (cells : List Cell). slice_get cells (page_number g to)) copied.now
            ∙ slice_get-set_same old (page_number g to) (Whole spare copied.bytes) (slice_get_within old (page_number g to) Blank free)
            ∙ sym copied.held
            ∙ h.whole from x e
        holds spot x false same e =
            ap (λ (cells : List Cell). slice_get cells (page_number g spot)) copied.now
            ∙ slice_get-set_other old (page_number g to) (page_number g spot) (Whole spare copied.bytes) (away spot x e)
            ∙ h.whole spot x e

  -- a unit was erased, or that failed
  pub holds-erased : (unit : ℕ) → EraseMayLeave g old unit new → HoldsWritten g new (without_unit written unit) now
  holds-erased unit left = record {
    lie = λ spot x e. h.lie spot x (without-before written unit spot x e).1;
    whole = λ spot x e.
        let was = without-before written unit spot x e in
        same_outside_page g unit old new spot left.others (h.lie spot x was.1).page was.0 ∙ h.whole spot x was.1;
    blank = blank;
  }
