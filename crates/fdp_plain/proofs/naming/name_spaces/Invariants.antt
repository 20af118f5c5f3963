use Rattle.fdp_plain.proofs.Renaming.{IsNaming}
use Rattle.fdp_plain.proofs.naming.name_spaces.Given as goal

abbrev pub invariant-loop-place : goal.invariant-loop-place
invariant-loop-place l = IsNaming (record { written_rows = l.sites.rows; found_rows = l.found.rows }) l.fn.spaces l.place l.spaces
