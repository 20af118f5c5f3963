-- The calls of a step by its answer: none of them failed, or just the last.
use Rattle.std.proofs.Common.{◌≡◌, ◌≢◌, Bool, true, false, ◌||◌, List, [], ◌∷◌, ◌++◌, refl, sym, ◌∙◌, ap, append_assoc}
use Rattle.std.specs.List.{list_any}
use Rattle.std.proofs.lemmas.List.Folds.{list_any-append}
use Rattle.fdp_calls.specs.Calls.{has_failed}
use Rattle.fdp_flash.specs.FlashState.{Call}
use Rattle.fdp_relocation.specs.fdp_journal.JournalState.{JournalState}
use Rattle.fdp_relocation.specs.fdp_saving.declared.saved.Saved.{Saved}
use Rattle.fdp_relocation.specs.fdp_saving.declared.saved.Saved.TheVariants as savings
use Rattle.fdp_relocation.specs.fdp_saving.Calls.{AreCallsOfSaving, FailAtEnd}
use Rattle.fdp_relocation.proofs.fdp_saving.Failing.{doubtful_failed, unsaved_failed}
use Rattle.fdp_snapshot.specs.declared.state.Summary.{Summary}

-- a saving that was not done failed by its last call
pub saving-fails : (s : JournalState) (summary : Summary) (answer : Saved) (calls : List Call) → answer ≢ savings.Done → AreCallsOfSaving s summary answer calls → FailAtEnd calls
saving-fails s summary savings.Done calls other h = absurd (other refl)
saving-fails s summary (savings.Doubtful moment) calls other h = doubtful_failed s summary moment calls h
saving-fails s summary (savings.Unsaved moment) calls other h = unsaved_failed s summary moment calls h

-- calls of which the last failed are some of which one failed
pub last-failed : (calls : List Call) → FailAtEnd calls → list_any has_failed calls ≡ true
last-failed calls h =
    ap (list_any has_failed) h.calls_are ∙ list_any-append has_failed h.before (h.last ∷ []) ∙ ap (λ (b : Bool). b || (h.last.failed || false)) h.well ∙ ap (λ (b : Bool). b || false) h.failed

-- ---- calls behind others

pub well-joined : (xs ys : List Call) → list_any has_failed xs ≡ false → list_any has_failed ys ≡ false → list_any has_failed (xs ++ ys) ≡ false
well-joined xs ys p q = list_any-append has_failed xs ys ∙ ap (λ (k : Bool). k || list_any has_failed ys) p ∙ q

pub fails-behind : (xs : List Call) → list_any has_failed xs ≡ false → (ys : List Call) → FailAtEnd ys → FailAtEnd (xs ++ ys)
fails-behind xs well ys h = record {
  before = xs ++ h.before;
  last = h.last;
  calls_are = ap (λ (zs : List Call). xs ++ zs) h.calls_are ∙ sym (append_assoc xs h.before (h.last ∷ []));
  well = well-joined xs h.before well h.well;
  failed = h.failed;
}
