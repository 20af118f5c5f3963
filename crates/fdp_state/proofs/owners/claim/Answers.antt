use Rattle.std.proofs.Common.{Option, subst, sym, ℕ}
use Rattle.fdp_state.specs.Owners.{AreOwners, with_page}
use Rattle.fdp_state.proofs.Owning.{claimed-none}
use Rattle.fdp_state.proofs.owners.claim.Goals as goal

pub returns-in-None : goal.returns-in-None
returns-in-None c pages h none =
    subst (λ (o : Option ℕ). AreOwners (with_page pages c.args.block o) c.args.owners.now.items) (sym c.in-None.is) (claimed-none pages c.args.owners.now.items c.args.block none h)
