use Rattle.std.proofs.Common.{ℕ, ◌≤◌, ◌<◌}
use Rattle.fdp_plain_judge.specs.Judging.{IsNextIn}
use Rattle.fdp_plain_judge.proofs.pages.is_next_of_a_write.Given as goal

abbrev pub invariant-loop-queue : goal.invariant-loop-queue
invariant-loop-queue l = (q : ℕ) → 1 ≤ q → q < l.queue → IsNextIn l.kept l.ticket l.index l.at q → ⊥
