use Rattle.fdp_outline.specs.Fresh.{ArePlaced}
use Rattle.fdp_outline.proofs.fresh.configured_spaces.Given as goal

abbrev pub invariant-loop-place : goal.invariant-loop-place
invariant-loop-place l = ArePlaced l.namespaces l.place l.rows.items
