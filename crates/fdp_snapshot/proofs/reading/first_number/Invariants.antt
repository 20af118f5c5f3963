use Rattle.std.proofs.Common.{◌≡◌, ℕ, ◌<◌, ◌≤◌}
use Rattle.std.specs.Prelude.{slice_index}
use Rattle.fdp_snapshot.proofs.reading.first_number.Given as goal

abbrev pub invariant-loop-i : goal.invariant-loop-i
invariant-loop-i l = record {
  least : l.from ≤ l.i;
  zeros : (k : ℕ) → l.from ≤ k → k < l.i → slice_index l.bytes k ≡ 0;
}
