use Rattle.std.proofs.Common.{◌∙◌, refl, subst, sym}
use Rattle.fdp_keeper.specs.fdp_collector.declared.step.Step.TheVariants as steps
use Rattle.fdp_keeper.specs.fdp_book.Book.{written_in}
use Rattle.fdp_keeper.specs.fdp_locations.Stored.{HoldsWritten}
use Rattle.fdp_relocation.proofs.Erasing.{not-of-erase}
use Rattle.fdp_relocation.proofs.Kept.{keeper-of}
use Rattle.fdp_relocation.proofs.Storing.{held-on, settled-same}
use Rattle.fdp_relocation.proofs.advance.erase_settled.Goals as goal

pub relocate-requires-clause-stored : goal.relocate-requires-clause-stored
relocate-requires-clause-stored g c = λ tells.
    let f = g.F.Flash.state c.args.flash.now in
    let n = g.F.Flash.state c.settle.new.flash in
    let b = c.args.book.now in
    let run = c.settle.ensures.saves.calls.made.run in
    let told = sym run.told ∙ tells in
    let cut = c.requires.can.geometry in
    let held = held-on b f.geometry f.cells n.cells cut c.known.ensures.units (settled-same b c.args.keeper.now c.settle.new.self f n c.settle.result c.requires.said c.settle.ensures.saves told) (c.requires.stored told) in
    subst (λ geometry. HoldsWritten geometry n.cells (written_in b) b.pages.units) (sym run.geometry) held

pub returns-in-Failed-clause-stored : goal.returns-in-Failed-clause-stored
returns-in-Failed-clause-stored g c = λ told.
    let f = g.F.Flash.state c.args.flash.now in
    let n = g.F.Flash.state c.settle.new.flash in
    let b = c.args.book.now in
    held-on b f.geometry f.cells n.cells c.requires.can.geometry c.known.ensures.units (settled-same b c.args.keeper.now c.settle.new.self f n c.settle.result c.requires.said c.settle.ensures.saves told) (c.requires.stored told)

pub returns-in-Erased-clause-keeper : goal.returns-in-Erased-clause-keeper
returns-in-Erased-clause-keeper g c =
    keeper-of c.args.book.now c.relocate.new.self _ c.settle.new.self c.settle.new.self c.relocate.ensures.step.longer refl c.settle.ensures.keeper

pub returns-in-Fault-Retired-clause-keeper : goal.returns-in-Fault-Retired-clause-keeper
returns-in-Fault-Retired-clause-keeper g c =
    keeper-of c.args.book.now c.relocate.new.self _ c.settle.new.self c.settle.new.self c.relocate.ensures.step.longer refl c.settle.ensures.keeper

pub unreachable-requires-in-Copied : goal.unreachable-requires-in-Copied
unreachable-requires-in-Copied g c =
    not-of-erase c.args.book.now c.relocate.new.self (g.F.Flash.state c.settle.new.flash) (g.F.Flash.state c.relocate.new.flash) c.args.rg c.relocate.result (steps.Copied c.in-Copied.field-0) c.requires.due c.relocate.ensures.step c.in-Copied.is

pub unreachable-requires-in-Starved : goal.unreachable-requires-in-Starved
unreachable-requires-in-Starved g c =
    not-of-erase c.args.book.now c.relocate.new.self (g.F.Flash.state c.settle.new.flash) (g.F.Flash.state c.relocate.new.flash) c.args.rg c.relocate.result steps.Starved c.requires.due c.relocate.ensures.step c.in-Starved.is
