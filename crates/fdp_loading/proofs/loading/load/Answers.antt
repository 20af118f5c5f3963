use Rattle.fdp_loading.proofs.Checkpointed.{err-saved, ok-saved}
use Rattle.fdp_loading.proofs.loading.load.Goals as goal

pub returns-in-Ok-clause-loaded : goal.returns-in-Ok-clause-loaded
returns-in-Ok-clause-loaded g c =
    let old = g.F.Flash.state c.args.flash.now in
    let mid = g.F.Flash.state c.begin.new.flash in
    let new = g.F.Flash.state c.save.new.flash in
    ok-saved c.args.config.now old mid new c.in-Ok.begun.book c.in-Ok.begun.keeper c.in-Ok.ensures.looks c.in-Ok.ensures.begun (g.met.F.Flash.well_formed c.args.flash.now) (g.met.F.Flash.well_formed c.save.new.flash) c.save.result c.save.ensures

pub returns-in-Ok-clause-refused : goal.returns-in-Ok-clause-refused
returns-in-Ok-clause-refused g c =
    let old = g.F.Flash.state c.args.flash.now in
    let mid = g.F.Flash.state c.begin.new.flash in
    let new = g.F.Flash.state c.save.new.flash in
    err-saved c.args.config.now old mid new c.in-Ok.begun.book c.in-Ok.begun.keeper c.in-Ok.ensures.looks c.in-Ok.ensures.begun (g.met.F.Flash.well_formed c.args.flash.now) c.save.result c.save.ensures
