use Rattle.std.proofs.Common.{length}
use Rattle.fdp_reader.specs.Form.{Walks}
use Rattle.fdp_reader.proofs.front.read_front.Given as goal

abbrev pub invariant-loop-line : goal.invariant-loop-line
invariant-loop-line l = Walks l.config l.text l.place l.rest

abbrev pub decreases-loop-line : goal.decreases-loop-line
decreases-loop-line l = length l.rest
