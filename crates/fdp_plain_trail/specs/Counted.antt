-- Sums that stay in range.
use Rattle.std.specs.Prelude.{◌+◌, ◌^◌, ◌≤◌}
use Rattle.fdp_tables.specs.declared.state.Kept.{Kept}

-- what one entry counts, fewer than 2 ^ 32, may be added to each sum
pub record HasCountRoom (k : Kept) : Type 0 where
  pub host_blocks : k.host_blocks + 2 ^ 32 ≤ 2 ^ 128
  pub media_blocks : k.media_blocks + 2 ^ 32 ≤ 2 ^ 128
  pub erases : k.erases + 2 ^ 32 ≤ 2 ^ 128
