-- The record of a change within its limits fits the smallest block.
use Rattle.std.proofs.Common.{ℕ, ◌≤◌, Bool, IsTrue, nat_le, length, arith, inl, inr}
use Rattle.std.specs.Prelude.{◌&&◌, ◌==◌}
use Rattle.std.proofs.Math.Nat.{le_trans}
use Rattle.std.proofs.lemmas.Bool.{and_parts, leb-true, or_cases, eqb-true}
use Rattle.fdp_base.specs.Geometry.{IsBlockSize}
use Rattle.fdp_records.specs.declared.change.Change.{Change}
use Rattle.fdp_records.specs.declared.change.Change.TheVariants as changes
use Rattle.fdp_records.specs.Limits.{is_within, is_within_limits}
use Rattle.fdp_records.specs.Records.{record_size}

most : (low high n : ℕ) → IsTrue (is_within low high n) → n ≤ high
most low high n h = leb-true n high (and_parts (nat_le low n) (nat_le n high) h).1

first : (a b : Bool) → IsTrue (a && b) → IsTrue a
first a b h = (and_parts a b h).0

pub record_fits : (change : Change) → IsTrue (is_within_limits change) → record_size change ≤ 512
unfolding is_within_limits
record_fits (changes.Write nsid slba pid pid_invalid pages) h = omega (arith, most 1 64 (length pages) h)
record_fits (changes.Clear nsid ranges) h = omega (arith, most 1 16 (length ranges) h)
record_fits (changes.Update nsid closed pids) h = omega (arith, most 1 64 (length pids) (first _ _ h))
record_fits (changes.Create nsid size given handles) h = omega (arith, most 1 16 (length handles) (and_parts _ _ h).1)
record_fits (changes.Delete nsid) h = omega arith
record_fits (changes.SetFdp enabled index generation) h = omega arith
record_fits (changes.SetEvents ruh on mask) h = omega arith
record_fits (changes.Moved victim first_target second handles) h = omega (arith, most 1 256 (length handles) (first _ _ (first _ _ (first _ _ h))))
record_fits (changes.Shut rg ruh) h = omega arith

-- the smallest block has 512 bytes
pub block_least : (bytes : ℕ) → IsBlockSize bytes → 512 ≤ bytes
block_least bytes h = elim (or_cases (bytes == 512) (bytes == 4096) h) [
  | inl small ↦ omega (arith, eqb-true bytes 512 small)
  | inr large ↦ omega (arith, eqb-true bytes 4096 large)
]

-- so it holds the record of a change within its limits
pub record_room : (change : Change) (bytes : ℕ) → IsTrue (is_within_limits change) → IsBlockSize bytes → record_size change ≤ bytes
record_room change bytes limits block = let fits = record_fits change limits in let least = block_least bytes block in le_trans fits least
