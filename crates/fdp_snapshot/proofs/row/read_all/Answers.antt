use Rattle.std.proofs.Common.{arith, sym, subst, ◌∙◌}
use Rattle.fdp_records.proofs.Items.{IsReading, reading_first, reading_more, reading_end}
use Rattle.fdp_snapshot.proofs.row.read_all.Goals as goal

pub loop-i-init : goal.loop-i-init
loop-i-init g c =
    subst (IsReading g.T.Row.width g.T.Row.read_from c.args.count c.args.at 0 c.args.bytes.now) (sym c.new-list.ensures.items)
    (reading_first g.T.Row.width g.T.Row.read_from c.args.count c.args.at c.args.bytes.now)

pub loop-i-preserved : goal.loop-i-preserved
loop-i-preserved g c =
    reading_more g.T.Row.width g.T.Row.read_from c.args.count c.args.at c.loop-i.i c.size.result c.size-in-loop-i.result c.args.bytes.now c.loop-i.list.items c.push.new.self.items c.in_ok-row.row
    (omega arith) c.size.ensures c.size-in-loop-i.ensures c.in_ok-row.ensures c.in_ok-push.ensures.items c.loop-i.invariant

pub returns : goal.returns
returns g c =
    c.from_vec.ensures ∙ reading_end g.T.Row.width g.T.Row.read_from c.args.count c.args.at c.loop-i.i c.args.bytes.now c.loop-i.list.items (omega arith) c.loop-i.invariant
