use Rattle.fdp_records.proofs.Items.{IsReading}
use Rattle.fdp_snapshot.proofs.row.read_all.Given as goal

abbrev pub invariant-loop-i : goal.invariant-loop-i
invariant-loop-i g l = IsReading g.T.Row.width g.T.Row.read_from l.count l.at l.i l.bytes l.list.items
