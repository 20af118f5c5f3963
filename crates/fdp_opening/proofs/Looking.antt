-- How many looks there are at the pages of the blocks: one for each block at most.
use Rattle.std.proofs.Common.{◌≡◌, ℕ, ◌+◌, ◌-◌, ◌≤◌, ◌<◌, List, Option, ap, ◌∙◌, arith}
use Rattle.fdp_base.proofs.Sums.{sum_from, sum_from-cut, sum_from-last, sum_from-same}
use Rattle.fdp_image.specs.Checkpoint.{reading_of_state}
use Rattle.fdp_image.specs.Reading.{size_in}
use Rattle.fdp_rules.specs.Room.{namespace_ids}
use Rattle.fdp_snapshot.specs.declared.state.State.{State}
use Rattle.fdp_image.specs.Fits.{blocks_of_all}
use Rattle.fdp_recovery.specs.fdp_state.Loaded.{IsLoadable}
use Rattle.fdp_recovery.specs.fdp_state.Parts.{listed}

-- the blocks of the namespaces up to one
pub listed-more : (lists : List (List (Option ℕ))) (nsid : ℕ) → 1 ≤ nsid → sum_from (listed lists) 1 (nsid + 1 - 1) ≡ sum_from (listed lists) 1 (nsid - 1) + listed lists nsid
listed-more lists nsid low =
    let count : nsid + 1 - 1 ≡ nsid - 1 + 1 = omega (arith, low) in
    let last : 1 + (nsid - 1) ≡ nsid = omega (arith, low) in
    ap (sum_from (listed lists) 1) count ∙ sum_from-last (listed lists) 1 (nsid - 1) ∙ ap (λ (k : ℕ). sum_from (listed lists) 1 (nsid - 1) + listed lists k) last

pub listed-most : (lists : List (List (Option ℕ))) (nsid : ℕ) → nsid < 17 → sum_from (listed lists) 1 (nsid + 1 - 1) ≤ sum_from (listed lists) 1 16
listed-most lists nsid low =
    let cut = sum_from-cut (listed lists) 1 nsid (16 - nsid) in
    let count : nsid + 1 - 1 ≡ nsid = omega arith in
    let all : nsid + (16 - nsid) ≡ 16 = omega (arith, low) in
    omega (arith, ap (sum_from (listed lists) 1) count, ap (sum_from (listed lists) 1) all, cut)

pub all-listed : (s : State) → IsLoadable s → sum_from (listed s.pages) 1 16 ≡ blocks_of_all (reading_of_state s)
unfolding namespace_ids
all-listed s h = sum_from-same (listed s.pages) (size_in (reading_of_state s)) 1 16 (λ nsid _ _. h.sizes nsid)
