-- A call of the flash that failed.
use Rattle.std.specs.Prelude.{◌≡◌, ℕ, ◌-◌, IsTrue, true, slice_get, Some}
use Rattle.fdp_base.specs.Counts.{Rose}
use Rattle.fdp_flash.specs.FlashState.{Call, Faulted, FlashState}

-- The last of the calls that were made between two states failed, at this moment: the flash counted it, and where it tells its calls
-- that one stands on the list as failed.
pub record FailsLast (old new : FlashState) (moment : ℕ) : Type 0 where
  pub faulted : Faulted old new
  pub since : Rose old.moment moment
  pub moment_is : moment ≡ new.moment
  pub failed : IsTrue new.tells_calls → (call : Call) × (slice_get new.calls (moment - 1) ≡ Some call) × (call.failed ≡ true)
