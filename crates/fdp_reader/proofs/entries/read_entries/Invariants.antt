use Rattle.std.proofs.Common.{length}
use Rattle.fdp_reader.specs.Next.{AreRead}
use Rattle.fdp_reader.proofs.entries.read_entries.Given as goal

abbrev pub invariant-loop-rest : goal.invariant-loop-rest
invariant-loop-rest l = AreRead l.config l.text l.entries.items l.rest

abbrev pub decreases-loop-rest : goal.decreases-loop-rest
decreases-loop-rest l = length l.rest
