-- A command in its queue pair: one entry in, one completion out.
use Rattle.std.specs.Prelude.{◌≡◌, ℕ, ◌+◌, ◌%◌, ◌≤◌, false, []}
use Rattle.fdp_base.specs.declared.entry.Reply.{Reply}
use Rattle.fdp_layouts.specs.declared.completion.Cqe.{Cqe}
use Rattle.fdp_layouts.specs.declared.completion.RetryDelay.TheVariants as delays
use Rattle.fdp_layouts.specs.Completion.{sct_code}
use Rattle.fdp_queues.specs.Phase.{phase_tag}
use Rattle.fdp_queues.specs.Rings.{HasFetched, HasPosted, Rings, with_phase}

-- a pair of so many slots in which nothing waits: so many entries were ever fetched from it, and so many completions posted
pub record IsIdlePair (depth fetched posted : ℕ) (r : Rings) : Type 0 where
  pub slots : 2 ≤ depth
  pub depth_is : r.depth ≡ depth
  pub submissions : r.submissions ≡ []
  pub completions : r.completions ≡ []
  pub fetched_are : HasFetched r fetched
  pub posted_are : HasPosted r posted

-- The completion of a command: DW0 and the status of the reply, the three bits of its type; the SQ head; its queue and its identifier, which is its
-- number; and no word of a retry.
pub record IsCompletionOf (queue head number : ℕ) (reply : Reply) (cqe : Cqe) : Type 0 where
  pub dw0 : cqe.dw0 ≡ reply.dw0
  pub dw1 : cqe.dw1 ≡ 0
  pub sq_head : cqe.sq_head ≡ head
  pub sq_id : cqe.sq_id ≡ queue
  pub cid : cqe.cid ≡ number
  pub sct : sct_code cqe.status.sct ≡ reply.status.sct % 8
  pub sc : cqe.status.sc ≡ reply.status.sc
  pub retry : (cqe.status.crd ≡ delays.None) × (cqe.status.more ≡ false) × (cqe.status.dnr ≡ false)

-- the completion of a command was reaped as it was posted: with the SQ head behind its own entry, and the phase tag of its slot
pub record IsReaped (depth queue number : ℕ) (reply : Reply) (reaped : Cqe) : Type 0 where
  pub cqe : Cqe
  pub completion : IsCompletionOf queue ((number + 1) % depth) number reply cqe
  pub reaped_is : reaped ≡ with_phase (phase_tag depth number) cqe
