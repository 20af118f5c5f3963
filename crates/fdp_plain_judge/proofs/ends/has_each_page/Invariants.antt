use Rattle.std.proofs.Common.{ℕ, ◌<◌}
use Rattle.std.specs.Prelude.{IsSome}
use Rattle.fdp_rules.specs.PlainState.{PageName.written}
use Rattle.fdp_tables.specs.State.{site_at}
use Rattle.fdp_plain_judge.proofs.ends.has_each_page.Given as goal

abbrev pub invariant-loop-index : goal.invariant-loop-index
invariant-loop-index l = (i : ℕ) → i < l.index → IsSome (site_at l.kept (written l.going.ticket i))
