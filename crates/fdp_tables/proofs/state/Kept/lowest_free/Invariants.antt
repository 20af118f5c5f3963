use Rattle.fdp_rules.specs.Refusal.{is_absent}
use Rattle.fdp_tables.specs.State.{plain_of}
use Rattle.fdp_tables.proofs.Counting.{IsSeekingIn}
use Rattle.fdp_tables.proofs.state.Kept.lowest_free.Given as goal

abbrev pub invariant-loop-nsid : goal.invariant-loop-nsid
invariant-loop-nsid l = IsSeekingIn (is_absent (plain_of l.self)) l.nsid-items l.nsid-index
