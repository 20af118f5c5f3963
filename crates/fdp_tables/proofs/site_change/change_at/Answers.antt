use Rattle.std.proofs.Common.{arith, map, sym}
use Rattle.std.specs.Vec.{vec_items}
use Rattle.std.proofs.lemmas.List.{length-map}
use Rattle.fdp_tables.specs.PageSites.{changed_by}
use Rattle.fdp_tables.proofs.Siting.{past_changed, set_changed}
use Rattle.fdp_tables.proofs.site_change.change_at.Goals as goal

pub returns-then-ticket-len : goal.returns-then-ticket-len
returns-then-ticket-len c =
    let rows = c.args.rows.now.items in
    set_changed vec_items (map (changed_by c.args.change)) rows c.args.ticket c.index_mut.result.now c.change_row.new.pages (omega (arith, c.if-ticket-len.true, c.len.ensures, c.args.rows.now.ok.0)) c.index_mut.ensures.value c.change_row.ensures

pub returns-else-ticket-len : goal.returns-else-ticket-len
returns-else-ticket-len c =
    let rows = c.args.rows.now.items in
    sym (past_changed (map (changed_by c.args.change)) c.args.ticket (map vec_items rows) (omega (arith, c.if-ticket-len.false, c.len.ensures, c.args.rows.now.ok.0, length-map rows vec_items)))
