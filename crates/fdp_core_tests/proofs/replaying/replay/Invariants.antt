use Rattle.fdp_core_tests.proofs.Taken.{IsReplayed}
use Rattle.fdp_core_tests.proofs.replaying.replay.Given as goal

abbrev pub invariant-loop-place : goal.invariant-loop-place
invariant-loop-place l = IsReplayed l.config l.entries l.plain l.place
