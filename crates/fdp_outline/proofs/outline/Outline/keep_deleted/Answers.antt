use Rattle.std.proofs.Common.{subst, sym}
use Rattle.fdp_outline.specs.Outline.{IsOutlineOf}
use Rattle.fdp_snapshot.specs.declared.state.Summary.{Summary}
use Rattle.fdp_outline.proofs.Applying.{outline-deleted}
use Rattle.fdp_outline.proofs.outline.Outline.keep_deleted.Goals as goal

pub returns : goal.returns
returns c = λ config r totals h.
    outline-deleted config r c.self.inside.summary totals c.put.new.spaces c.args.nsid c.self.invariant.summary c.put.ensures.spaces
    (subst (λ (x : Summary). IsOutlineOf config r x) (sym c.self.view_is) h)
