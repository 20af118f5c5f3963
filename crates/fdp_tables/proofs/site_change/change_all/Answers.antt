use Rattle.std.proofs.Common.{◌∙◌, ◌+◌, arith, map, refl, subst, sym}
use Rattle.std.specs.Prelude.{nat_lt}
use Rattle.std.specs.Vec.{vec_items}
use Rattle.std.proofs.lemmas.Bool.{false≢true}
use Rattle.std.proofs.lemmas.List.{length-map}
use Rattle.fdp_tables.specs.PageSites.{changed_by}
use Rattle.fdp_tables.proofs.Siting.{IsChanging, changing_end, changing_next, lower_or_here, not_below_itself}
use Rattle.fdp_tables.proofs.site_change.change_all.Goals as goal

pub loop-ticket-preserved : goal.loop-ticket-preserved
loop-ticket-preserved c =
    let f = map (changed_by c.args.change) in
    let old = map vec_items c.args.rows.now.items in
    let at = c.loop-ticket.ticket in
    subst (IsChanging f (λ ticket. nat_lt ticket (at + 1)) old) (sym c.change_at.ensures)
    (changing_next f refl (λ ticket. nat_lt ticket at) (λ ticket. nat_lt ticket (at + 1)) at old (map vec_items c.loop-ticket.rows.items) (λ ticket. lower_or_here ticket at)
    (λ there row. absurd (false≢true (sym (not_below_itself at) ∙ there))) c.loop-ticket.invariant)

pub returns : goal.returns
returns c =
    let rows = c.args.rows.now.items in
    let at = c.loop-ticket.ticket in
    changing_end (map (changed_by c.args.change)) refl (λ ticket. nat_lt ticket at) (map vec_items rows) (map vec_items c.loop-ticket.rows.items)
    (λ ticket below not. absurd (grind (arith, not, below, c.loop-ticket-test.false, length-map rows vec_items, c.len-ticket-end.ensures, c.args.rows.now.ok.0)))
    c.loop-ticket.invariant
