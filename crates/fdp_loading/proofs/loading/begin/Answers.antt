use Rattle.std.proofs.Common.{Ok, subst}
use Rattle.std.specs.Prelude.{IsTrue}
use Rattle.fdp_loading.proofs.Looked.{looks-joined, looks-of}
use Rattle.fdp_loading.proofs.Over.{begun-unwritten, err-opened, ok-opened}
use Rattle.fdp_keeper.specs.fdp_recovery.declared.opened.Opened.{Opened}
use Rattle.fdp_keeper.specs.fdp_recovery.Opened.{GoesOn, TellsOpened, most_looks}
use Rattle.fdp_loading.proofs.loading.begin.Goals as goal

pub returns-in-Ok-clause-begun : goal.returns-in-Ok-clause-begun
returns-in-Ok-clause-begun g c =
    let old = g.F.Flash.state c.args.flash.now in
    let new = g.F.Flash.state c.open_state.new.flash in
    begun-unwritten c.args.config.now old new c.in-Ok.begun.book c.in-Ok.begun.keeper c.requires.config (g.met.F.Flash.well_formed c.args.flash.now) c.in-Ok-Fresh.ensures.cut
    (subst (λ (o : Opened). IsTrue old.told → TellsOpened c.args.config.now old.geometry old.cells (Ok o)) c.in-Ok-Fresh.field-0-is c.in-Ok-Fresh.ensures.told)
    (looks-of (most_looks old.geometry) old new c.in-Ok-Fresh.ensures.looks) c.in-Ok-Fresh.ensures.ends c.in-Ok.ensures

pub returns-in-Ok-Found-clause-looks : goal.returns-in-Ok-Found-clause-looks
returns-in-Ok-Found-clause-looks g c =
    let old = g.F.Flash.state c.args.flash.now in
    let mid = g.F.Flash.state c.open_state.new.flash in
    looks-joined old mid (g.F.Flash.state c.found.new.flash) (looks-of (most_looks old.geometry) old mid c.in-Ok-Found.ensures.looks) c.found.ensures.looks

pub returns-in-Ok-Found-clause-begun : goal.returns-in-Ok-Found-clause-begun
returns-in-Ok-Found-clause-begun g c =
    let cfg = c.args.config.now in
    let old = g.F.Flash.state c.args.flash.now in
    let mid = g.F.Flash.state c.open_state.new.flash in
    let new = g.F.Flash.state c.found.new.flash in
    ok-opened cfg old mid new c.in-Ok-Found.state c.in-Ok-Found.area c.in-Ok-Found.epoch (looks-of (most_looks old.geometry) old mid c.in-Ok-Found.ensures.looks) c.found.ensures.looks
    (subst (λ (o : Opened). IsTrue old.told → TellsOpened cfg old.geometry old.cells (Ok o)) c.in-Ok-Found.field-0-is c.in-Ok-Found.ensures.told) c.in-Ok-Found.ensures.ends
    c.requires.config (subst (GoesOn cfg) c.in-Ok-Found.field-0-is c.in-Ok-Found.ensures.goes_on) c.found.result c.found.ensures.ends c.found.ensures.made

pub returns-in-Ok-Found-clause-refused : goal.returns-in-Ok-Found-clause-refused
returns-in-Ok-Found-clause-refused g c =
    let cfg = c.args.config.now in
    let old = g.F.Flash.state c.args.flash.now in
    let mid = g.F.Flash.state c.open_state.new.flash in
    let new = g.F.Flash.state c.found.new.flash in
    err-opened cfg old mid new c.in-Ok-Found.state c.in-Ok-Found.area c.in-Ok-Found.epoch (looks-of (most_looks old.geometry) old mid c.in-Ok-Found.ensures.looks) c.found.ensures.looks
    (subst (λ (o : Opened). IsTrue old.told → TellsOpened cfg old.geometry old.cells (Ok o)) c.in-Ok-Found.field-0-is c.in-Ok-Found.ensures.told) c.in-Ok-Found.ensures.ends
    c.found.result c.found.ensures.ends c.found.ensures.refused
