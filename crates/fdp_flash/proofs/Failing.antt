-- A call that failed, and one behind others.
use Rattle.std.proofs.Common.{◌≡◌, ℕ, IsTrue, Bool, true, false, List, Some, arith, refl}
use Rattle.std.specs.List.{slice_get}
use Rattle.fdp_base.specs.declared.entry.Spot.{Spot}
use Rattle.fdp_flash.specs.declared.answer.Fetched.TheVariants as fetched
use Rattle.fdp_flash.specs.declared.answer.Seen.TheVariants as seen
use Rattle.fdp_flash.specs.declared.answer.Wrote.TheVariants as wrote
use Rattle.fdp_flash.specs.declared.cell.Cell.{Cell}
use Rattle.fdp_flash.specs.declared.cell.Cell.TheVariants.{Whole}
use Rattle.fdp_flash.specs.Answers.{Erases, Fetches, Looks, Programs}
use Rattle.fdp_flash.specs.Failing.{FailsLast}
use Rattle.fdp_flash.specs.FlashState.{Begins, Call, Ends, FlashState, IsWellFormed}
use Rattle.fdp_flash.specs.Layout.{page_number}
use Rattle.fdp_flash.specs.Runs.{Runs}
use Rattle.fdp_flash.proofs.Runs.{call_is_listed, fault_after_run}

pub call_failed : (old new : FlashState) (call : Call) (MayLeave : List Cell → Type 0) → IsWellFormed new → Begins old new → Ends old new call MayLeave → call.failed ≡ true → FailsLast old new new.moment
call_failed old new call MayLeave w b ended is = record {
  faulted = ended.fault is;
  since = omega (arith, b.moment);
  moment_is = refl;
  failed = λ t. (call, call_is_listed old new call MayLeave w ended t, is);
}

pub look_failed : (old new : FlashState) (at : Spot) (spare bytes : List ℕ) → IsWellFormed new → Begins old new → Looks old new at spare bytes seen.Failed → FailsLast old new new.moment
look_failed old new at spare bytes w b a = call_failed old new _ _ w b a.ended refl

pub program_failed : (old new : FlashState) (at : Spot) (spare bytes : List ℕ) → IsWellFormed new → Begins old new → Programs old new at spare bytes wrote.Failed → FailsLast old new new.moment
program_failed old new at spare bytes w b a = call_failed old new _ _ w b a.ended refl

pub erase_failed : (old new : FlashState) (unit : ℕ) → IsWellFormed new → Begins old new → Erases old new unit wrote.Failed → FailsLast old new new.moment
erase_failed old new unit w b a = call_failed old new _ _ w b a.ended refl

pub fetch_failed : (old new : FlashState) (at : Spot) (spare bytes : List ℕ) → IsWellFormed new → Begins old new → Fetches old new at spare bytes fetched.Failed → FailsLast old new new.moment
fetch_failed old new at spare bytes w b a = call_failed old new _ _ w b a.ended (a.is_failed refl)

not_false : (b : Bool) → (b ≡ false → ⊥) → b ≡ true
not_false true wrong = refl
not_false false wrong = absurd (wrong refl)

-- an answer Other is a failure where the page is whole with that spare as far as the cells are told
pub fetch_missed : (old new : FlashState) (at : Spot) (spare bytes found : List ℕ) → IsWellFormed new → Begins old new → Fetches old new at spare bytes fetched.Other →
    (IsTrue old.told → slice_get old.cells (page_number old.geometry at) ≡ Some (Whole spare found)) → FailsLast old new new.moment
fetch_missed old new at spare bytes found w b a whole =
    call_failed old new _ _ w b a.ended (not_false a.failed (λ e. a.other refl e found (whole (a.told refl e))))

-- a failure behind other calls
pub failed_behind : (start now new : FlashState) (Image : ℕ → List Cell → Type 0) (moment : ℕ) → Runs start now Image → FailsLast now new moment → FailsLast start new moment
failed_behind start now new Image moment run f = record {
  faulted = fault_after_run start now new Image run f.faulted;
  since = omega (arith, run.later, f.since);
  moment_is = f.moment_is;
  failed = f.failed;
}
