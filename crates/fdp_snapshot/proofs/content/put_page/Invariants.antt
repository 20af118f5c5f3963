use Rattle.std.proofs.Common.{◌≡◌, ℕ, ◌+◌, ◌*◌, ◌≤◌, ◌++◌, drop, length, take}
use Rattle.fdp_snapshot.specs.Checkpoint.{page_list_bytes}
use Rattle.fdp_snapshot.specs.Rows.{zeros}
use Rattle.fdp_snapshot.proofs.content.put_page.Given as goal

abbrev pub invariant-loop-i : goal.invariant-loop-i
invariant-loop-i l = record {
  size : length l.into ≡ length l.fn.into;
  so_far : (rest : ℕ) → (l.number + 1) * length l.fn.into ≤ length l.fixed + length (page_list_bytes l.pages) + rest
      → take (4 * l.i) l.into ≡ take (4 * l.i) (drop (l.number * length l.fn.into) (l.fixed ++ page_list_bytes l.pages ++ zeros rest));
}
