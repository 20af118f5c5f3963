use Rattle.fdp_layouts.proofs.Decoding.{is_ok_clause, is_only_clause}
use Rattle.fdp_layouts.proofs.frame.Frame.decode.Goals as goal

pub returns-clause-ok : goal.returns-clause-ok
returns-clause-ok g c =
    is_ok_clause g.row.N g.Self.Frame.fields g.Self.Frame.numbers c.args.bytes.now c.read.result c.told-bytes c.see_bytes.ensures g.met.Self.Frame.in_order c.read.ensures.holds

pub returns-clause-only : goal.returns-clause-only
returns-clause-only g c =
    is_only_clause g.row.N g.Self.Frame.fields g.Self.Frame.numbers c.args.bytes.now c.read.result g.met.Self.Frame.in_order c.read.ensures.known c.read.ensures.holds
