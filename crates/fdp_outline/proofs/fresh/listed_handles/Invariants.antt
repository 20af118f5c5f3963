use Rattle.std.proofs.Common.{◌≡◌, take}
use Rattle.fdp_outline.proofs.fresh.listed_handles.Given as goal

abbrev pub invariant-loop-place : goal.invariant-loop-place
invariant-loop-place l = l.handles ≡ take l.place l.list
