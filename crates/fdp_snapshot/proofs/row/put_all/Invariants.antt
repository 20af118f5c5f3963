use Rattle.std.proofs.Common.{◌≡◌, take}
use Rattle.std.specs.Prelude.{flat_map, All}
use Rattle.fdp_records.specs.Bytes.{placed}
use Rattle.fdp_snapshot.proofs.row.put_all.Given as goal

abbrev pub invariant-loop-i : goal.invariant-loop-i
invariant-loop-i g l = record {
  so_far : l.into ≡ placed l.at (flat_map g.T.Row.bytes_of (take l.i l.rows)) l.fn.into;
  fit : All g.T.Row.Fits (take l.i l.rows);
}
