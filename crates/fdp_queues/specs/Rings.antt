-- A queue pair as its callers see it.
use Rattle.std.specs.Prelude.{◌≡◌, ℕ, ◌-◌, ◌%◌, ◌*◌, ◌<◌, ◌≤◌, Bool, List}
use Rattle.fdp_base.specs.declared.limits.TheConstants.{MOST_QUEUE_DEPTH}
use Rattle.fdp_layouts.specs.declared.completion.Cqe.{Cqe}
use Rattle.fdp_queues.specs.declared.work.Work.{Work}
use Rattle.fdp_queues.specs.Phase.{phase_tag}

-- the slots of a ring, the entries in both, oldest first, the entries that were ever fetched, up to a multiple of the slots (the SQ head), and the completions
-- that were ever posted, up to a multiple of twice the slots
pub record Rings : Type 0 where
  pub depth : ℕ
  pub submissions : List Work
  pub completions : List Cqe
  pub head : ℕ
  pub posts : ℕ

-- one slot of a ring stays empty
abbrev pub IsFullAt : ℕ → ℕ → Type 0
IsFullAt depth entries = entries ≡ depth - 1

-- a completion with its phase tag
abbrev pub with_phase : Bool → Cqe → Cqe
with_phase phase cqe = record cqe { status = record cqe.status { phase = phase } }

-- so many entries were ever fetched
abbrev pub HasFetched : Rings → ℕ → Type 0
HasFetched r count = r.head ≡ count % r.depth

-- so many completions were ever posted; a pair keeps their number within two turns of the ring
abbrev pub HasPosted : Rings → ℕ → Type 0
HasPosted r count = r.posts ≡ count % (2 * r.depth)

-- the completion as it is posted into a ring
abbrev pub posted : Rings → Cqe → Cqe
posted r cqe = with_phase (phase_tag r.depth r.posts) cqe

pub record AreRings (depth submissions completions head posts : ℕ) : Type 0 where
  pub shallow : 2 ≤ depth
  pub deep : depth ≤ MOST_QUEUE_DEPTH
  pub submitted : submissions < depth
  pub completed : completions < depth
  pub headed : head < depth
  pub counted : posts < 2 * depth
