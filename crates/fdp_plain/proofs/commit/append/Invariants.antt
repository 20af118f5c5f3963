use Rattle.std.proofs.Common.{◌≡◌, ◌+◌, ◌++◌, take}
use Rattle.std.specs.Vec.{vec_capacity, vec_len}
use Rattle.fdp_plain.proofs.commit.append.Given as goal

-- so many of the events stand behind those that were there
pub record Appended (l : goal.Live-loop-event) : Type 0 where
  pub items : l.kept.items ≡ l.fn.kept.items ++ take l.event-index l.events
  pub len : vec_len l.kept ≡ vec_len l.fn.kept + l.event-index
  pub capacity : vec_capacity l.kept ≡ vec_capacity l.fn.kept

abbrev pub invariant-loop-event : goal.invariant-loop-event
invariant-loop-event l = Appended l
