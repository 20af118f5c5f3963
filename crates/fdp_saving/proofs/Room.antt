-- The room that a valid configuration leaves behind a checkpoint.
use Rattle.std.proofs.Common.{ℕ, ◌+◌, ◌*◌, ◌≤◌, ◌<◌, arith, inl, inr}
use Rattle.std.specs.Int.{div_ceil}
use Rattle.std.proofs.Math.Nat.{mul-le-mul_right}
use Rattle.std.proofs.lemmas.Bool.{cases_lt}
use Rattle.std.proofs.lemmas.Grind.{div_ceil_times}
use Rattle.fdp_base.specs.declared.config.DriveConfig.{DriveConfig}
use Rattle.fdp_base.specs.Config.{IsValidConfig}
use Rattle.fdp_base.specs.Geometry.{area_pages}
use Rattle.fdp_base.specs.Placement.{geometry_of, most_blocks}
use Rattle.fdp_snapshot.specs.declared.state.Summary.{Summary}
use Rattle.fdp_snapshot.specs.Checkpoint.{checkpoint_size}
use Rattle.fdp_snapshot.specs.Reading.{blocks_in}
use Rattle.fdp_image.specs.Replacing.{pages_for}
use Rattle.fdp_checkpoint.proofs.SealedAnew.{pages_few}
use Rattle.fdp_journal.proofs.Limits.{block_least}

-- fewer bytes than so many pages and one more take no more than so many pages
few_pages : (pages most block : ℕ) → pages * block < most * block + block → pages ≤ most
few_pages pages most block lt = elim (cases_lt most pages) [
  | inl more ↦ (
      let next : most + 1 ≤ pages = omega (arith, more) in
      let least : (most + 1) * block ≤ pages * block = mul-le-mul_right block next in
      absurd (omega (arith, least, lt))
      )
  | inr few ↦ few
]

size_at_most : (summary : Summary) (most : ℕ) → blocks_in summary.spaces ≤ most → checkpoint_size summary ≤ 5120 + 4 * most
unfolding checkpoint_size
size_at_most summary most few = omega (arith, few)

pub checkpoint_room : (c : DriveConfig) (summary : Summary) → IsValidConfig c → blocks_in summary.spaces ≤ most_blocks c → pages_for c.block summary + 17 ≤ area_pages (geometry_of c)
checkpoint_room c summary valid few =
    let block = c.block in
    let bytes : ℕ = 5120 + 4 * most_blocks c in
    let some : 0 < block = (let least = block_least block valid.ranges.block in omega (arith, least)) in
    let size : checkpoint_size summary ≤ bytes = size_at_most summary (most_blocks c) few in
    let held : bytes ≤ div_ceil bytes block * block = (div_ceil_times bytes block some).0 in
    let taken : pages_for block summary * block < checkpoint_size summary + block = pages_few block summary some in
    let count : pages_for block summary ≤ div_ceil bytes block = few_pages (pages_for block summary) (div_ceil bytes block) block (below (pages_for block summary * block) (checkpoint_size summary) bytes (div_ceil bytes block * block) block taken size held) in
    let room : div_ceil bytes block + 17 ≤ area_pages (geometry_of c) = valid.room.area in
    joined (pages_for block summary) (div_ceil bytes block) (area_pages (geometry_of c)) count room
  where
    below : (taken size bytes held block : ℕ) → taken < size + block → size ≤ bytes → bytes ≤ held → taken < held + block
    below taken size bytes held block a b d = omega arith

    joined : (pages most room : ℕ) → pages ≤ most → most + 17 ≤ room → pages + 17 ≤ room
    joined pages most room a b = omega arith
