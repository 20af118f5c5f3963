-- Rows that become absent.
use Rattle.std.specs.Prelude.{◌≡◌, ℕ, Bool, List, Option, None, cond, length}
use Rattle.fdp_tables.specs.State.{row}

-- the rows at these places became absent, and the others are as they were
pub record IsCleared {X : Type 0} (at : ℕ → Bool) (old new : List (Option X)) : Type 0 where
  pub size : length new ≡ length old
  pub rows : (lba : ℕ) → row new lba ≡ cond (at lba) None (row old lba)
