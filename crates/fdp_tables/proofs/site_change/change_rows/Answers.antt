use Rattle.std.proofs.Common.{◌∙◌, ◌+◌, ap, arith, get_or, map, refl, subst, sym, take}
use Rattle.std.specs.Prelude.{◌==◌}
use Rattle.std.specs.Vec.{vec_items}
use Rattle.std.proofs.lemmas.List.{take_all}
use Rattle.std.proofs.lemmas.List.Folds.{list_any_more}
use Rattle.fdp_tables.specs.Index.{is_listed}
use Rattle.fdp_tables.specs.PageSites.{changed_by}
use Rattle.fdp_tables.proofs.Siting.{IsChanging, changing_end, changing_next, twice_mapped}
use Rattle.fdp_tables.proofs.site_change.change_rows.Goals as goal

pub loop-ticket-preserved : goal.loop-ticket-preserved
loop-ticket-preserved c =
    let f = map (changed_by c.args.change) in
    let old = map vec_items c.args.rows.now.items in
    let tickets = c.args.tickets.now in
    let i = c.loop-ticket.ticket-index in
    subst (IsChanging f (λ ticket. is_listed ticket (take (i + 1) tickets)) old) (sym c.change_at.ensures)
    (changing_next f refl (λ ticket. is_listed ticket (take i tickets)) (λ ticket. is_listed ticket (take (i + 1) tickets)) (get_or tickets i 0) old (map vec_items c.loop-ticket.rows.items)
    (λ ticket. list_any_more (λ x. x == ticket) tickets i 0 c.loop-ticket-test.true)
    (λ there row. twice_mapped (changed_by c.args.change) c.requires.once row) c.loop-ticket.invariant)

pub returns : goal.returns
returns c =
    let tickets = c.args.tickets.now in
    let i = c.loop-ticket.ticket-index in
    changing_end (map (changed_by c.args.change)) refl (λ ticket. is_listed ticket (take i tickets)) (map vec_items c.args.rows.now.items) (map vec_items c.loop-ticket.rows.items)
    (λ ticket below not. c.requires.others ticket (sym (ap (is_listed ticket) (take_all i tickets (omega (arith, c.loop-ticket-test.false)))) ∙ not))
    c.loop-ticket.invariant
