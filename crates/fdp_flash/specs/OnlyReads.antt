-- Calls of the flash that only read.
use Rattle.std.specs.Prelude.{◌≡◌, ℕ, ◌+◌, ◌≤◌}
use Rattle.fdp_flash.specs.FlashState.{FlashState}
use Rattle.fdp_flash.specs.Runs.{Holds}

-- At most so many calls were made, none of which changed the cells: all that a stop in one of them may leave is what stood before.
pub record ReadsOnly (most : ℕ) (old new : FlashState) : Type 0 where
  pub held : Holds (λ cells. cells ≡ old.cells) old new
  pub programs : new.programs ≡ old.programs
  pub moments : new.moment ≤ old.moment + most
