-- What an image may say for a run to begin with it.
use Rattle.std.specs.Prelude.{ℕ, ◌^◌, ◌<◌, ◌≤◌, IsTrue, length}
use Rattle.fdp_base.specs.declared.event.EventKind.{EventKind}
use Rattle.fdp_image.specs.Reading.{Reading}

-- the position, the sums and the generation are far below the last values of their counts
pub record IsUnspent (r : Reading) : Type 0 where
  pub position : r.totals.position < 2 ^ 62
  pub host_blocks : r.totals.host_blocks < 2 ^ 62
  pub media_blocks : r.totals.media_blocks < 2 ^ 62
  pub erases : r.totals.erases < 2 ^ 62
  pub generation : r.generation < 2 ^ 31

-- events are kept for sixteen handles at most, and at most 32 of each class; nothing is spent
pub record CanBegin (r : Reading) : Type 0 where
  pub handles : (ruh : ℕ) (kind : EventKind) → IsTrue (r.reports ruh kind) → ruh < 16
  pub host_events : length r.host_events ≤ 32
  pub controller_events : length r.controller_events ≤ 32
  pub unspent : IsUnspent r
