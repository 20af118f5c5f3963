use Rattle.std.proofs.Common.{Bool, subst}
use Rattle.fdp_checkpoint.specs.Writing.{with_pages}
use Rattle.fdp_flash.specs.Runs.{Holds}
use Rattle.fdp_saving.specs.Said.{ReadsAsOneOf}
use Rattle.fdp_saving.specs.Saving.{within_renewal}
use Rattle.fdp_saving.proofs.saver.Saver.make_ready.Goals as goal

pub returns-clause-stops : goal.returns-clause-stops
returns-clause-stops g c d own tried drive says =
    let given = with_pages c.args.summary.now c.args.pages.now in
    let old = g.F.Flash.state c.args.flash.now in
    let new = g.F.Flash.state c.renew.new.flash in
    subst (λ (b : Bool). Holds (ReadsAsOneOf d old.cells (within_renewal b own tried given)) old new) c.needs_checkpoint.ensures (c.renew.ensures.stops d own tried drive says)
