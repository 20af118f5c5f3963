-- Which answers are counted as faults.
use Rattle.std.proofs.Common.{◌≡◌, ℕ, IsTrue, Bool, true, false, List, Some, refl}
use Rattle.std.specs.List.{slice_get}
use Rattle.fdp_base.specs.declared.entry.Spot.{Spot}
use Rattle.fdp_flash.specs.declared.answer.Fetched.TheVariants as fetched
use Rattle.fdp_flash.specs.declared.answer.Seen.TheVariants as seen
use Rattle.fdp_flash.specs.declared.answer.Wrote.TheVariants as wrote
use Rattle.fdp_flash.specs.declared.cell.Cell.TheVariants.{Whole}
use Rattle.fdp_flash.specs.Answers.{Looks, Fetches, Programs, Erases}
use Rattle.fdp_flash.specs.FlashState.{FlashState, Faulted}
use Rattle.fdp_flash.specs.Layout.{page_number}

pub look_fault : (old new : FlashState) (at : Spot) (spare bytes : List ℕ) → Looks old new at spare bytes seen.Failed → Faulted old new
look_fault old new at spare bytes a = a.ended.fault refl

pub program_fault : (old new : FlashState) (at : Spot) (spare bytes : List ℕ) → Programs old new at spare bytes wrote.Failed → Faulted old new
program_fault old new at spare bytes a = a.ended.fault refl

pub erase_fault : (old new : FlashState) (unit : ℕ) → Erases old new unit wrote.Failed → Faulted old new
erase_fault old new unit a = a.ended.fault refl

pub fetch_fault : (old new : FlashState) (at : Spot) (spare bytes : List ℕ) → Fetches old new at spare bytes fetched.Failed → Faulted old new
fetch_fault old new at spare bytes a = a.ended.fault (a.is_failed refl)

fault_where_failed : (old new : FlashState) (failed : Bool) → (failed ≡ true → Faulted old new) → (failed ≡ false → ⊥) → Faulted old new
fault_where_failed old new true fault wrong = fault refl
fault_where_failed old new false fault wrong = absurd (wrong refl)

-- an answer Other is a fault where the page is whole with that spare as far as the cells are told
pub other_fault : (old new : FlashState) (at : Spot) (spare bytes found : List ℕ) → Fetches old new at spare bytes fetched.Other →
    (IsTrue old.told → slice_get old.cells (page_number old.geometry at) ≡ Some (Whole spare found)) → Faulted old new
other_fault old new at spare bytes found a whole =
    fault_where_failed old new a.failed a.ended.fault (λ e. a.other refl e found (whole (a.told refl e)))
