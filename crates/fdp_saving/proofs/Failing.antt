-- Of the calls of a saving at most the last fails.
use Rattle.std.proofs.Common.{◌≡◌, ℕ, Bool, true, false, ◌||◌, List, [], ◌∷◌, ◌++◌, refl, sym, ap, ◌∙◌}
use Rattle.std.specs.List.{list_any}
use Rattle.std.proofs.lemmas.List.Folds.{list_any-append}
use Rattle.fdp_calls.specs.Calls.{has_failed}
use Rattle.fdp_calls.proofs.Made.{any-first}
use Rattle.fdp_flash.specs.declared.answer.Wrote.TheVariants as wrote
use Rattle.fdp_flash.specs.FlashState.{Call}
use Rattle.fdp_image.specs.Replacing.{pages_for}
use Rattle.fdp_journal.specs.Journal.{record_call}
use Rattle.fdp_journal.specs.JournalState.{JournalState}
use Rattle.fdp_saving.specs.Calls.{AreCallsOfCheckpoint, AreCallsOfRenewal, AreCallsOfSaving, AreUpToFailed, FailAtEnd, calls_of_checkpoint, calls_of_renewal}
use Rattle.fdp_saving.specs.declared.saved.Saved.TheVariants as answers
use Rattle.fdp_saving.specs.Saver.{needs_checkpoint, other_area, renewed}
use Rattle.fdp_saving.proofs.Made.{checkpoint_planned}
use Rattle.fdp_snapshot.specs.declared.state.Summary.{Summary}

both_well : (a b : Bool) → a ≡ false → b ≡ false → (a || b) ≡ false
both_well true b x y = absurd cc
both_well false b x y = y

well_joined : (xs ys : List Call) → list_any has_failed xs ≡ false → list_any has_failed ys ≡ false → list_any has_failed (xs ++ ys) ≡ false
well_joined xs ys p q = list_any-append has_failed xs ys ∙ both_well (list_any has_failed xs) (list_any has_failed ys) p q

-- planned calls have not failed
checkpoint_well : (s : JournalState) (summary : Summary) → list_any has_failed (calls_of_checkpoint s summary) ≡ false
checkpoint_well s summary = (checkpoint_planned s.geometry (other_area s.area) (pages_for s.geometry.block summary)).well

renewal_well : (wanted : Bool) (s : JournalState) (summary : Summary) → list_any has_failed (calls_of_renewal wanted s summary) ≡ false
renewal_well true s summary = checkpoint_well s summary
renewal_well false s summary = refl

-- calls up to one that failed
up_to_failed : (planned calls : List Call) → list_any has_failed planned ≡ false → AreUpToFailed planned calls → FailAtEnd calls
up_to_failed planned calls well h =
    let all : (list_any has_failed h.before || list_any has_failed (h.last ∷ h.behind)) ≡ false =
    sym (list_any-append has_failed h.before (h.last ∷ h.behind)) ∙ sym (ap (list_any has_failed) h.planned_are) ∙ well in
    record {
      before = h.before;
      last = record h.last { failed = true };
      calls_are = h.calls_are;
      well = any-first (list_any has_failed h.before) (list_any has_failed (h.last ∷ h.behind)) all;
      failed = refl;
    }

pub renewed_well : (wanted : Bool) (s : JournalState) (summary : Summary) (calls : List Call) → AreCallsOfRenewal wanted s summary wrote.Done calls → list_any has_failed calls ≡ false
renewed_well wanted s summary calls are = ap (list_any has_failed) are ∙ renewal_well wanted s summary

pub renewed_failed : (wanted : Bool) (s : JournalState) (summary : Summary) (calls : List Call) → AreCallsOfRenewal wanted s summary wrote.Failed calls → FailAtEnd calls
renewed_failed wanted s summary calls are = up_to_failed (calls_of_checkpoint s summary) calls (checkpoint_well s summary) are.1

pub written_well : (s : JournalState) (summary : Summary) (calls : List Call) → AreCallsOfCheckpoint s summary wrote.Done calls → list_any has_failed calls ≡ false
written_well s summary calls are = ap (list_any has_failed) are ∙ checkpoint_well s summary

pub written_failed : (s : JournalState) (summary : Summary) (calls : List Call) → AreCallsOfCheckpoint s summary wrote.Failed calls → FailAtEnd calls
written_failed s summary calls are = up_to_failed (calls_of_checkpoint s summary) calls (checkpoint_well s summary) are

pub saved_well : (s : JournalState) (summary : Summary) (calls : List Call) → AreCallsOfSaving s summary answers.Done calls → list_any has_failed calls ≡ false
saved_well s summary calls are =
    ap (list_any has_failed) are
    ∙ well_joined (calls_of_renewal (needs_checkpoint s) s summary) (record_call (renewed (needs_checkpoint s) s summary) ∷ []) (renewal_well (needs_checkpoint s) s summary) refl

pub doubtful_failed : (s : JournalState) (summary : Summary) (moment : ℕ) (calls : List Call) → AreCallsOfSaving s summary (answers.Doubtful moment) calls → FailAtEnd calls
doubtful_failed s summary moment calls are = record {
  before = calls_of_renewal (needs_checkpoint s) s summary;
  last = record (record_call (renewed (needs_checkpoint s) s summary)) { failed = true };
  calls_are = are;
  well = renewal_well (needs_checkpoint s) s summary;
  failed = refl;
}

pub unsaved_failed : (s : JournalState) (summary : Summary) (moment : ℕ) (calls : List Call) → AreCallsOfSaving s summary (answers.Unsaved moment) calls → FailAtEnd calls
unsaved_failed s summary moment calls are = renewed_failed (needs_checkpoint s) s summary calls are
