use Rattle.std.proofs.Common.{None, arith, set, subst, sym}
use Rattle.std.proofs.lemmas.Option.{slice_get_read}
use Rattle.fdp_state.specs.declared.owners.Owner.{Owner}
use Rattle.fdp_state.specs.Owners.{AreOwners, with_page}
use Rattle.fdp_state.proofs.Owning.{owners-released, released-past}
use Rattle.fdp_state.proofs.owners.release_page.Goals as goal

pub returns-then-at-len : goal.returns-then-at-len
returns-then-at-len c pages block h was =
    let at = slice_get_read c.args.owners.now.items c.len.result c.args.page c.index.result.now (omega (arith, c.len.ensures, c.args.owners.now.ok)) c.if-at-len.true c.index.ensures in
    subst (λ (x : Owner). AreOwners (with_page pages block None) (set c.args.owners.now.items c.args.page x)) (sym c.released.ensures)
    (owners-released pages c.args.owners.now.items block c.args.page c.index.result.now at was h)

pub returns-else-at-len : goal.returns-else-at-len
returns-else-at-len c pages block h was = released-past pages c.args.owners.now.items block c.args.page (omega (arith, c.if-at-len.false, c.len.ensures, c.args.owners.now.ok)) was h
