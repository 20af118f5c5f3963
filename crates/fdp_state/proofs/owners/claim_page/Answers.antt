use Rattle.std.proofs.Common.{Some, arith, set, subst, sym}
use Rattle.std.proofs.lemmas.Option.{slice_get_read}
use Rattle.fdp_state.specs.declared.owners.Owner.{Owner}
use Rattle.fdp_state.specs.Owners.{AreOwners, with_page}
use Rattle.fdp_state.proofs.Owning.{claimed-past, owners-claimed}
use Rattle.fdp_state.proofs.owners.claim_page.Goals as goal

pub returns-then-at-len : goal.returns-then-at-len
returns-then-at-len c pages h none =
    let at = slice_get_read c.args.owners.now.items c.len.result c.args.page c.index.result.now (omega (arith, c.len.ensures, c.args.owners.now.ok)) c.if-at-len.true c.index.ensures in
    subst (λ (x : Owner). AreOwners (with_page pages c.args.block (Some c.args.page)) (set c.args.owners.now.items c.args.page x)) (sym c.claimed.ensures)
    (owners-claimed pages c.args.owners.now.items c.args.block c.args.page c.index.result.now at none h)

pub returns-else-at-len : goal.returns-else-at-len
returns-else-at-len c pages h none = claimed-past pages c.args.owners.now.items c.args.block c.args.page (omega (arith, c.if-at-len.false, c.len.ensures, c.args.owners.now.ok)) none h
