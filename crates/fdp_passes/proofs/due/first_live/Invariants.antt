use Rattle.std.proofs.Common.{◌≡◌, ◌≤◌, ◌<◌, ℕ, None}
use Rattle.fdp_owners.specs.OwnerTable.{owner_at}
use Rattle.fdp_passes.proofs.due.first_live.Given as goal

abbrev pub invariant-loop-page : goal.invariant-loop-page
invariant-loop-page l = (k : ℕ) → l.fn.first ≤ k → k < l.page → owner_at l.owners (record { unit = l.fn.unit; page = k }) ≡ None
