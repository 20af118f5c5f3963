-- Blocks that get the pages of a write, one after another.
use Rattle.std.specs.Prelude.{ℕ, ◌-◌, ◌==◌, ◌&&◌, Option, Some, None, if◌then◌else◌, nat_lt}
use Rattle.fdp_base.specs.Numbers.{is_among}
use Rattle.fdp_pointers.specs.Pointers.{Pointer, Pointer.of_block, Pointer.of_flight}

-- the first blocks have the pages of the write, the others what they had; those pages are the write's no longer
abbrev pub taken_first : ℕ → ℕ → ℕ → ℕ → Pointer → Option Pointer
taken_first queue nsid slba count (of_block n lba) = if n == nsid && is_among slba count lba then Some (of_flight queue (lba - slba)) else Some (of_block n lba)
taken_first queue nsid slba count (of_flight q i) = if q == queue && nat_lt i count then None else Some (of_flight q i)
