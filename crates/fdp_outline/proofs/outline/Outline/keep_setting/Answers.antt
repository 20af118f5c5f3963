use Rattle.std.proofs.Common.{subst, sym}
use Rattle.fdp_outline.specs.Outline.{IsOutlineOf}
use Rattle.fdp_snapshot.specs.declared.state.Summary.{Summary}
use Rattle.fdp_outline.proofs.Applying.{outline-set}
use Rattle.fdp_outline.proofs.outline.Outline.keep_setting.Goals as goal

pub returns : goal.returns
returns c = λ config r totals h.
    outline-set config r c.self.inside.summary totals c.args.enabled c.args.index c.args.generation c.no_reports-self-inside.result c.self.invariant.summary c.no_reports-self-inside.ensures.none c.no_reports-self-inside.ensures.known
    (subst (λ (x : Summary). IsOutlineOf config r x) (sym c.self.view_is) h)
