-- How many pages a checkpoint takes, where an area has no room for it.
use Rattle.std.proofs.Common.{◌≡◌, ℕ, ◌+◌, ◌-◌, ◌*◌, ◌<◌, ◌≤◌, ap, arith}
use Rattle.std.proofs.lemmas.Nat.{le-div}
use Rattle.fdp_snapshot.specs.declared.state.Summary.{Summary}
use Rattle.fdp_snapshot.specs.Checkpoint.{checkpoint_size}
use Rattle.fdp_image.specs.Replacing.{pages_for}

pub count_short : (pages block : ℕ) (s : Summary) → 0 < block → pages * block ≤ checkpoint_size s → pages ≤ pages_for block s
count_short pages block s some less = le-div pages (checkpoint_size s + (block - 1)) block some (omega (arith, less))

pub room_is : (n m block : ℕ) → n ≡ m → n * block ≡ m * block
room_is n m block same = ap (λ (k : ℕ). k * block) same
