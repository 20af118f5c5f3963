use Rattle.std.proofs.Common.{◌≡◌, None, replicate}
use Rattle.fdp_handles.proofs.handles.blank_rows.Given as goal

abbrev pub invariant-loop : goal.invariant-loop
invariant-loop l = l.rows.items ≡ replicate l.counter (record { unit = None; left = l.geometry.unit_pages })
