use Rattle.std.proofs.Common.{◌<◌, subst, sym}
use Rattle.fdp_base.specs.Placement.{handle_count}
use Rattle.fdp_outline.specs.Outline.{IsOutlineOf}
use Rattle.fdp_snapshot.specs.declared.state.Summary.{Summary}
use Rattle.fdp_outline.proofs.Applying.{outline-masks}
use Rattle.fdp_outline.proofs.outline.Outline.keep_kinds.Goals as goal

pub returns : goal.returns
returns c = λ config r totals there small h.
    let inside = c.self.inside.summary in
    outline-masks config r inside totals c.args.ruh c.args.mask c.args.on c.set_reports.new.masks c.self.invariant.summary c.set_reports.ensures.kinds c.set_reports.ensures.known
    (subst (λ (x : Summary). c.args.ruh < handle_count config x.enabled x.index) (sym c.self.view_is) there) small
    (subst (λ (x : Summary). IsOutlineOf config r x) (sym c.self.view_is) h)
