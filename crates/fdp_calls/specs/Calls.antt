-- Calls of a flash that follow one another.
use Rattle.std.specs.Prelude.{◌≡◌, ℕ, zero, suc, ◌-◌, ◌≤◌, Bool, true, false, IsTrue, List, ◌++◌, length, slice_get, Some}
use Rattle.std.specs.List.{list_any}
use Rattle.fdp_base.specs.declared.entry.Spot.{Spot}
use Rattle.fdp_base.specs.Counts.{Rose, counted}
use Rattle.fdp_flash.specs.declared.answer.Operation.TheVariants.{Erase, Fetch, Program}
use Rattle.fdp_flash.specs.declared.cell.Cell.TheVariants.{Whole}
use Rattle.fdp_flash.specs.FlashState.{Call, Faulted, FlashState}
use Rattle.fdp_flash.specs.Layout.{page_number}
use Rattle.fdp_flash.specs.Runs.{Runs}

-- a call that fetches a page, and whether it failed
abbrev pub fetch_at : Spot → Bool → Call
fetch_at at failed = record { operation = Fetch; at = at; failed = failed }

-- a call that programs a page, and whether it failed
abbrev pub program_at : Spot → Bool → Call
program_at at failed = record { operation = Program; at = at; failed = failed }

-- a call that erases a unit, and whether it failed
abbrev pub erase_at : ℕ → Bool → Call
erase_at unit failed = record { operation = Erase; at = record { unit = unit; page = 0 }; failed = failed }

abbrev pub has_failed : Call → Bool
has_failed call = call.failed

-- a count after so many more
unfoldable pub counted_more : ℕ → ℕ → ℕ
counted_more count zero = count
counted_more count (suc n) = counted (counted_more count n)

-- Just these calls were made, one after another: the moment rose by as many; where the calls are told these stand behind the
-- earlier ones; a fault was counted exactly where one of them failed. Nothing is said of what a stop in one of them leaves.
pub record MakesCalls (old new : FlashState) (calls : List Call) : Type 0 where
  pub run : Runs old new (λ moment image. Unit {0})
  pub moment : new.moment ≡ counted_more old.moment (length calls)
  pub listed : IsTrue new.tells_calls → new.calls ≡ old.calls ++ calls
  pub fault : IsTrue (list_any has_failed calls) → Faulted old new
  pub no_fault : list_any has_failed calls ≡ false → new.faults ≡ old.faults

-- the call of this moment is one of those between two states: it lies above the moment before them, or the count stands at its
-- last value; where the calls are told, it failed
pub record FailedAt (old new : FlashState) (moment : ℕ) : Type 0 where
  pub since : Rose old.moment moment
  pub until : moment ≤ new.moment
  pub failed : IsTrue new.tells_calls → (call : Call) × (slice_get new.calls (moment - 1) ≡ Some call) × (call.failed ≡ true)

-- the flash is the same one: no count fell
pub record IsKept (old new : FlashState) : Type 0 where
  pub geometry : new.geometry ≡ old.geometry
  pub told : new.told ≡ old.told
  pub reliable : new.reliable ≡ old.reliable
  pub moment : old.moment ≤ new.moment
  pub faults : old.faults ≤ new.faults

-- some page that is whole with this spare stands there
abbrev pub IsWholeAt : FlashState → Spot → List ℕ → Type 0
IsWholeAt flash at spare = (bytes : List ℕ) × (slice_get flash.cells (page_number flash.geometry at) ≡ Some (Whole spare bytes))
