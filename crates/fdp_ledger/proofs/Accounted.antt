-- Each unit is accounted for after a step.
use Rattle.std.proofs.Common.{◌≡◌, ◌≢◌, ℕ, ◌+◌, ◌^◌, ◌<◌, ◌≤◌, Bool, true, false, List, [], ◌∷◌, ◌++◌, Some, None, length, sym, ◌∙◌, ap, subst, arith, ⊎_elim, ne_eqb}
use Rattle.std.specs.Prelude.{◌&&◌, ◌||◌, not, IsTrue}
use Rattle.std.specs.List.{list_any}
use Rattle.std.proofs.lemmas.Bool.{cases_eq}
use Rattle.fdp_base.specs.declared.config.Geometry.{Geometry}
use Rattle.fdp_base.specs.declared.entry.Entry.{Entry}
use Rattle.fdp_base.specs.declared.entry.Spot.{Spot}
use Rattle.fdp_base.specs.Counts.{Rose}
use Rattle.fdp_base.proofs.Sums.{count_from}
use Rattle.fdp_base.specs.EntryKinds.{unit_erased, unit_filled}
use Rattle.fdp_calls.specs.Calls.{erase_at, program_at}
use Rattle.fdp_book.proofs.fdp_collector.Kept.{unit-was}
use Rattle.fdp_flash.specs.Cells.{IsBlankUnit}
use Rattle.fdp_flash.specs.FlashState.{Call, FlashState}
use Rattle.fdp_units.specs.declared.state.UnitState.{UnitState}
use Rattle.fdp_units.specs.DataUnits.{is_free, is_lost}
use Rattle.fdp_units.specs.UnitTable.{IsUnit, UnitTable, state_at}
use Rattle.fdp_ledger.specs.declared.counts.Counts.{Counts}
use Rattle.fdp_ledger.specs.Ledger.{AreAccounted, is_vain}
use Rattle.fdp_ledger.specs.Start.{KnowsUnits}
use Rattle.fdp_ledger.specs.Uses.{RunStart, idle_erases, used_by}
use Rattle.fdp_ledger.specs.WornOut.{FailsIn, calls_since, erases}
use Rattle.fdp_ledger.proofs.Called.{ErasesNone, IsAfter, fails-now, fails-still}
use Rattle.fdp_ledger.proofs.Counting.{one-more_bound, still-bound}
use Rattle.fdp_ledger.proofs.Emptied.{IsNoneEmptied}
use Rattle.fdp_ledger.proofs.Entries.{SaysNothing, erased-idle, erased-other, erased-used, filled-idle, filled-other, filled-used, idle-push, used-push}
use Rattle.fdp_ledger.proofs.Units.{FillsUnit, FreesUnit, KeepsUnits}
use Rattle.fdp_ledger.proofs.Vain.{erased-count, filled-count, kept-count, kept-vain, other-vain, spoilt-count, units_of, used-vain}

no : true ≡ false → ⊥
no e = cc

-- an entry of a page that a unit got
pub record IsOfPage (e : Entry) (unit : ℕ) : Type 0 where
  pub filled : unit_filled e ≡ Some unit
  pub erased : unit_erased e ≡ None

-- an entry of an erase
pub record IsOfErase (e : Entry) (unit : ℕ) : Type 0 where
  pub filled : unit_filled e ≡ None
  pub erased : unit_erased e ≡ Some unit

module _ (handed : Counts) (start : RunStart) (t now : UnitTable) (es : List Entry) (old new : FlashState) (calls : List Call) (small : handed.faults < 2 ^ 64) (since : IsTrue old.tells_calls → handed.moment ≤ length old.calls) (after : IsAfter old new calls) (was : AreAccounted handed start t es old) where
  told-before : IsTrue new.told → IsTrue old.told
  told-before told = sym after.told ∙ told

  known-before : KnowsUnits new.told start → KnowsUnits old.told start
  known-before knows = subst (λ (told : Bool). KnowsUnits told start) after.told knows

  -- the units stay as they are
  pub accounted-kept : (xs : List Entry) → KeepsUnits t now → SaysNothing start es xs → ((unit : ℕ) → IsUnit t unit → list_any (erases unit) calls ≡ false) → (IsTrue old.told → (unit : ℕ) → IsUnit t unit → is_lost (state_at now unit) ≡ false → IsBlankUnit new.geometry new.cells unit → IsBlankUnit old.geometry old.cells unit) → AreAccounted handed start now (es ++ xs) new
  accounted-kept xs keeps says none cells = record {
    vain = λ knows. still-bound handed.faults (idle_erases start es + count_from (is_vain start t es) 0 (units_of t)) _ old.faults new.faults small
        (omega (arith, says.idle, kept-count start t now es xs keeps says)) after.faults (was.vain (known-before knows));
    failed = λ knows tells unit there vain. fails-still handed old new calls after since tells unit (none unit (unit-was t now unit keeps.cut there)) (was.failed (known-before knows) (after.tells tells) unit (unit-was t now unit keeps.cut there) (sym (kept-vain start t now es xs keeps says unit) ∙ vain));
    used = λ told unit there used kept blank.
        was.used (told-before told) unit (unit-was t now unit keeps.cut there) (sym (says.used unit) ∙ used) (keeps.lost unit kept) (cells (told-before told) unit (unit-was t now unit keeps.cut there) kept blank);
  }

  -- a unit got a page, and an entry tells of it
  pub accounted-filled : (e : Entry) (unit : ℕ) → FillsUnit t now unit → IsOfPage e unit → ErasesNone calls → (IsTrue old.told → IsBlankUnit new.geometry new.cells unit → ⊥) → (IsTrue old.told → IsNoneEmptied old.geometry old.cells new.cells) → AreAccounted handed start now (es ++ e ∷ []) new
  accounted-filled e unit fills is none whole cells = record {
    vain = λ knows. still-bound handed.faults (idle_erases start es + count_from (is_vain start t es) 0 (units_of t)) _ old.faults new.faults small
        (omega (arith, idle-push start es e, filled-idle (used_by start es) e is.erased, filled-count start t now es (e ∷ []) unit fills here others)) after.faults (was.vain (known-before knows));
    failed = λ knows tells other there vain. ⊎_elim
        (λ (same : other ≡ unit). absurd (no (sym vain ∙ ap (is_vain start now (es ++ e ∷ [])) same ∙ used-vain start now (es ++ e ∷ []) unit here)))
        (λ (ne : other ≢ unit). fails-still handed old new calls after since tells other (none other)
        (was.failed (known-before knows) (after.tells tells) other (unit-was t now other fills.cut there) (sym (other-vain start t now es (e ∷ []) other (fills.others other ne) (others other ne)) ∙ vain)))
        (cases_eq other unit);
    used = λ told other there used kept blank. ⊎_elim
        (λ (same : other ≡ unit). whole (told-before told) (subst (λ (u : ℕ). IsBlankUnit new.geometry new.cells u) same blank))
        (λ (ne : other ≢ unit). was.used (told-before told) other (unit-was t now other fills.cut there) (sym (others other ne) ∙ used) (sym (ap is_lost (fills.others other ne)) ∙ kept)
        (cells (told-before told) other (subst (λ (g : Geometry). IsBlankUnit g new.cells other) after.geometry blank)))
        (cases_eq other unit);
  } where
    here : used_by start (es ++ e ∷ []) unit ≡ true
    here = ap (λ (f : ℕ → Bool). f unit) (used-push start es e) ∙ filled-used (used_by start es) e unit is.filled is.erased

    others : (other : ℕ) → other ≢ unit → used_by start (es ++ e ∷ []) other ≡ used_by start es other
    others other ne = ap (λ (f : ℕ → Bool). f other) (used-push start es e) ∙ filled-other (used_by start es) e unit other is.filled is.erased ne

  -- a page of a unit was used for nothing: the last call, a program of it, failed
  pub accounted-spoilt : (xs : List Entry) (first : List Call) (spot : Spot) → FillsUnit t now spot.unit → SaysNothing start es xs → ErasesNone calls → calls ≡ first ++ program_at spot true ∷ [] → Rose old.faults new.faults → (IsTrue old.told → IsNoneEmptied old.geometry old.cells new.cells) → AreAccounted handed start now (es ++ xs) new
  accounted-spoilt xs first spot fills says none last rose cells = record {
    vain = λ knows. one-more_bound handed.faults (idle_erases start es + count_from (is_vain start t es) 0 (units_of t)) _ old.faults new.faults small
        (omega (arith, says.idle, spoilt-count start t now es xs spot.unit fills says)) after.faults rose (was.vain (known-before knows));
    failed = λ knows tells other there vain. ⊎_elim
        (λ (same : other ≡ spot.unit). subst (λ (u : ℕ). FailsIn u (calls_since handed new)) (sym same) (fails-now handed old new calls after since tells first spot last))
        (λ (ne : other ≢ spot.unit). fails-still handed old new calls after since tells other (none other)
        (was.failed (known-before knows) (after.tells tells) other (unit-was t now other fills.cut there) (sym (other-vain start t now es xs other (fills.others other ne) (says.used other)) ∙ vain)))
        (cases_eq other spot.unit);
    used = λ told other there used kept blank. was.used (told-before told) other (unit-was t now other fills.cut there) (sym (says.used other) ∙ used) (unlost other kept)
        (cells (told-before told) other (subst (λ (g : Geometry). IsBlankUnit g new.cells other) after.geometry blank));
  } where
    unlost : (other : ℕ) → is_lost (state_at now other) ≡ false → is_lost (state_at t other) ≡ false
    unlost other kept = ⊎_elim
        (λ (same : other ≡ spot.unit). ap (λ (u : ℕ). is_lost (state_at t u)) same ∙ fills.kept)
        (λ (ne : other ≢ spot.unit). sym (ap is_lost (fills.others other ne)) ∙ kept)
        (cases_eq other spot.unit)

  -- a unit was erased
  pub accounted-erased : (e : Entry) (unit : ℕ) → FreesUnit t now unit → IsOfErase e unit → calls ≡ erase_at unit false ∷ [] → (IsTrue old.told → (other : ℕ) → other ≢ unit → IsBlankUnit old.geometry new.cells other → IsBlankUnit old.geometry old.cells other) → AreAccounted handed start now (es ++ e ∷ []) new
  accounted-erased e unit frees is erased cells = record {
    vain = λ knows. still-bound handed.faults (idle_erases start es + count_from (is_vain start t es) 0 (units_of t)) _ old.faults new.faults small
        (omega (arith, idle-push start es e, erased-idle (used_by start es) e unit is.erased, erased-count start t now es (e ∷ []) unit frees others)) after.faults (was.vain (known-before knows));
    failed = λ knows tells other there vain. ⊎_elim
        (λ (same : other ≡ unit). absurd (no (sym vain ∙ ap (is_vain start now (es ++ e ∷ [])) same ∙ gone)))
        (λ (ne : other ≢ unit). fails-still handed old new calls after since tells other (ap (list_any (erases other)) erased ∙ other-erased other ne)
        (was.failed (known-before knows) (after.tells tells) other (unit-was t now other frees.cut there) (sym (other-vain start t now es (e ∷ []) other (frees.others other ne) (others other ne)) ∙ vain)))
        (cases_eq other unit);
    used = λ told other there used kept blank. ⊎_elim
        (λ (same : other ≡ unit). absurd (no (sym used ∙ ap (used_by start (es ++ e ∷ [])) same ∙ here)))
        (λ (ne : other ≢ unit). was.used (told-before told) other (unit-was t now other frees.cut there) (sym (others other ne) ∙ used) (sym (ap is_lost (frees.others other ne)) ∙ kept)
        (cells (told-before told) other ne (subst (λ (g : Geometry). IsBlankUnit g new.cells other) after.geometry blank)))
        (cases_eq other unit);
  } where
    here : used_by start (es ++ e ∷ []) unit ≡ false
    here = ap (λ (f : ℕ → Bool). f unit) (used-push start es e) ∙ erased-used (used_by start es) e unit is.filled is.erased

    others : (other : ℕ) → other ≢ unit → used_by start (es ++ e ∷ []) other ≡ used_by start es other
    others other ne = ap (λ (f : ℕ → Bool). f other) (used-push start es e) ∙ erased-other (used_by start es) e unit other is.filled is.erased ne

    gone : is_vain start now (es ++ e ∷ []) unit ≡ false
    gone = ap (λ (s : UnitState). not (is_free s) && not (used_by start (es ++ e ∷ []) unit)) frees.freed

    other-erased : (other : ℕ) → other ≢ unit → list_any (erases other) (erase_at unit false ∷ []) ≡ false
    other-erased other ne = ap (λ (b : Bool). b && true || false) (ne_eqb unit other (λ same. ne (sym same)))
